-- Which line answers a record of a schedule?
use Rattle.std.specs.Prelude.{ℕ, ◌+◌, ℤ, List, [], ◌∷◌, ◌++◌, Result, Ok, Err, codes, decimal}
use Rattle.std.specs.List.{join_with_byte}
use Rattle.taxi_base.specs.Airport.{Airport}
use Rattle.airport_file.specs.Plain.{text_of_lines}
use Rattle.schedule_import.specs.declared.row.Movement.{Movement}
use Rattle.schedule_import.specs.declared.row.Movement.TheVariants.{Arrival, Departure}
use Rattle.schedule_import.specs.declared.row.Row.{Row}
use Rattle.schedule_import.specs.declared.row.RowFault.{RowFault}
use Rattle.schedule_import.specs.declared.row.RowFault.TheVariants as fault
use Rattle.schedule_import.specs.Rows.{row_of, time_of_row}

abbrev pub fault_word : RowFault → List ℕ
fault_word fault.UnknownRow = codes "unknown-row"
fault_word fault.FieldCount = codes "field-count"
fault_word fault.BadName = codes "bad-name"
fault_word fault.BadTime = codes "bad-time"
fault_word fault.BadNumber = codes "bad-number"
fault_word fault.UnknownName = codes "unknown-name"
fault_word fault.WrongKind = codes "wrong-kind"
fault_word fault.OutOfDay = codes "out-of-day"

abbrev pub movement_word : Movement → List ℕ
movement_word Arrival = codes "arrival"
movement_word Departure = codes "departure"

-- the words of a command
abbrev pub command_words : Row → ℕ → List (List ℕ)
command_words row time =
    movement_word row.movement ∷ row.names.flight ∷ row.names.class ∷ row.names.from ∷ row.names.to ∷ decimal time ∷ decimal row.slack ∷ []

-- the line of a row whose time is taken, with one blank between words
abbrev pub command_line : Row → ℕ → List ℕ
command_line row time = join_with_byte 32 (command_words row time)

-- the line of a record that is not taken: its number and why
abbrev pub comment_line : ℕ → RowFault → List ℕ
comment_line at why = codes "# row " ++ decimal at ++ codes " " ++ fault_word why

-- the line of a row at the airport
abbrev pub line_of_time : ℕ → Row → Result ℕ RowFault → List ℕ
line_of_time at row (Ok time) = command_line row time
line_of_time at row (Err why) = comment_line at why

abbrev pub line_of_row : Airport → ℤ → ℕ → Result Row RowFault → List ℕ
line_of_row airport start at (Ok row) = line_of_time at row (time_of_row airport start row)
line_of_row airport start at (Err why) = comment_line at why

-- the line that answers the record of this number
abbrev pub line_of : Airport → ℤ → ℕ → List (List ℕ) → List ℕ
line_of airport start at fields = line_of_row airport start at (row_of fields)

-- the lines that answer records, the first of which has this number
abbrev pub lines_from : Airport → ℤ → ℕ → List (List (List ℕ)) → List (List ℕ)
lines_from airport start at [] = []
lines_from airport start at (fields ∷ rest) = line_of airport start at fields ∷ lines_from airport start (at + 1) rest

-- the answers to records, the first of which has this number: their lines, each ended by LF
abbrev pub answers_from : Airport → ℤ → ℕ → List (List (List ℕ)) → List ℕ
answers_from airport start at rows = text_of_lines (lines_from airport start at rows)
