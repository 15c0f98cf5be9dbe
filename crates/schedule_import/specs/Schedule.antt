-- What does a schedule come to, or why is it refused?
use Rattle.std.specs.Prelude.{ℕ, Bool, false, ◌&&◌, if◌then◌else◌, ℤ, List, [], ◌∷◌, Option, Some, None, Result, Ok, Err, codes, bytes_eq}
use Rattle.airport_file.specs.Reading.{records_of}
use Rattle.taxi_base.specs.Airport.{Airport}
use Rattle.schedule_import.specs.declared.import.ScheduleRefused.{ScheduleRefused}
use Rattle.schedule_import.specs.declared.import.ScheduleRefused.TheVariants.{FirstRow, BadStart}
use Rattle.civil_times.specs.Times.{second_of}
use Rattle.schedule_import.specs.Answers.{answers_from}

abbrev pub is_schedule : List ℕ → List ℕ → Bool
is_schedule word version = bytes_eq word (codes "taxi-schedule") && bytes_eq version (codes "1")

-- whether a record is the one of a schedule: taxi-schedule,1
abbrev pub is_first_row : List (List ℕ) → Bool
is_first_row (word ∷ version ∷ []) = is_schedule word version
is_first_row _ = false

abbrev pub start_by : List ℕ → List ℕ → Option ℤ
start_by word time = if bytes_eq word (codes "start") then second_of time else None

-- the second at which the day starts, where a record says it: start,WHEN
abbrev pub start_of : List (List ℕ) → Option ℤ
start_of (word ∷ time ∷ []) = start_by word time
start_of _ = None

-- the answers to the records from the third on, where the day's start is known
abbrev pub answers_for : Airport → Option ℤ → List (List (List ℕ)) → Result (List ℕ) ScheduleRefused
answers_for airport (Some start) rows = Ok (answers_from airport start 3 rows)
answers_for airport None rows = Err BadStart

-- the same of the records from the second on
abbrev pub after_first : Airport → List (List (List ℕ)) → Result (List ℕ) ScheduleRefused
after_first airport [] = Err BadStart
after_first airport (second ∷ rows) = answers_for airport (start_of second) rows

abbrev pub import_of_records : Airport → List (List (List ℕ)) → Result (List ℕ) ScheduleRefused
import_of_records airport [] = Err FirstRow
import_of_records airport (first ∷ rows) = if is_first_row first then after_first airport rows else Err FirstRow

-- the commands and comments that a schedule's bytes come to at an airport, or why the schedule is refused
unfoldable pub import_of : Airport → List ℕ → Result (List ℕ) ScheduleRefused
import_of airport bytes = import_of_records airport (records_of bytes)
