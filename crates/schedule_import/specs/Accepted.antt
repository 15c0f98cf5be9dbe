-- Which commands do the accepted rows of a schedule ask for?
use Rattle.std.specs.Prelude.{ℕ, ℤ, List, [], ◌∷◌, ◌++◌, Option, Some, None, Result, Ok, Err}
use Rattle.airport_file.specs.Reading.{records_of}
use Rattle.taxi_base.specs.Airport.{Airport}
use Rattle.taxi_text.specs.declared.command.Asked.{Asked}
use Rattle.taxi_text.specs.declared.command.Command.{Command}
use Rattle.taxi_text.specs.declared.command.Command.TheVariants as command
use Rattle.schedule_import.specs.declared.row.Movement.{Movement}
use Rattle.schedule_import.specs.declared.row.Movement.TheVariants.{Arrival, Departure}
use Rattle.schedule_import.specs.declared.row.Names.{Names}
use Rattle.schedule_import.specs.declared.row.Row.{Row}
use Rattle.schedule_import.specs.declared.row.RowFault.{RowFault}
use Rattle.schedule_import.specs.Rows.{row_of, time_of_row}
use Rattle.schedule_import.specs.Schedule.{start_of}

-- what names ask for at a second of the day
abbrev pub asked_at : Names → ℕ → ℕ → Asked
asked_at names time slack = record { flight = names.flight; class = names.class; from = names.from; to = names.to; time = time; slack = slack }

-- the command of a movement at a second of the day
abbrev pub command_of_names : Movement → Names → ℕ → ℕ → Command
command_of_names Arrival names time slack = command.Arrival (asked_at names time slack)
command_of_names Departure names time slack = command.Departure (asked_at names time slack)

abbrev pub command_at : Row → ℕ → Command
command_at row time = command_of_names row.movement row.names time row.slack

-- one command where the row's time is taken, else none
abbrev pub commands_at : Row → Result ℕ RowFault → List Command
commands_at row (Ok time) = command_at row time ∷ []
commands_at row (Err why) = []

abbrev pub commands_of_row : Airport → ℤ → Result Row RowFault → List Command
commands_of_row airport start (Ok row) = commands_at row (time_of_row airport start row)
commands_of_row airport start (Err why) = []

-- the commands of the accepted ones among records, in order
abbrev pub commands_from : Airport → ℤ → List (List (List ℕ)) → List Command
commands_from airport start [] = []
commands_from airport start (fields ∷ rest) = commands_of_row airport start (row_of fields) ++ commands_from airport start rest

abbrev pub commands_for : Airport → Option ℤ → List (List (List ℕ)) → List Command
commands_for airport (Some start) rows = commands_from airport start rows
commands_for airport None rows = []

abbrev pub accepted_of_records : Airport → List (List (List ℕ)) → List Command
accepted_of_records airport (first ∷ second ∷ rows) = commands_for airport (start_of second) rows
accepted_of_records airport _ = []

-- the commands that the accepted rows of a schedule ask for, in order
abbrev pub accepted_of : Airport → List ℕ → List Command
accepted_of airport bytes = accepted_of_records airport (records_of bytes)
