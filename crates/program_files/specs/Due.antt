-- Which status is due of files, where they are told?
use Rattle.std.specs.Prelude.{◌≡◌, ◌<◌, ◌≤◌, ◌⊎◌, ℕ, List, length, Option, Some, None, Result, Ok, Err}
use Rattle.taxi_base.specs.Airport.{Airport}
use Rattle.taxi_io.specs.Files.{Files, file_of}
use Rattle.airport_file.specs.Reading.{RecordFault, airport_of}
use Rattle.program_files.specs.declared.status.Status.{Status}
use Rattle.program_files.specs.declared.status.Status.TheVariants.{AirportRefused, TooLarge}
use Rattle.program_words.specs.Verb.{FileNames}
use Rattle.program_files.specs.Inputs.{airport_limit, commands_limit}

-- What is due of a file, by its limit and by what is due of its bytes within it: a file of more bytes is too large. Nothing is due
-- of a file that isn't there.
abbrev pub IsDueOfFile : Option (List ℕ) → ℕ → (List ℕ → Type 0) → Status → Type 0
IsDueOfFile None limit Within due = ⊥
IsDueOfFile (Some bytes) limit Within due = ((limit < length bytes) × (due ≡ TooLarge)) ⊎ ((length bytes ≤ limit) × Within bytes)

abbrev pub IsDueOfJudgement : Result Airport RecordFault → (Airport → Type 0) → Status → Type 0
IsDueOfJudgement (Err fault) Accepted due = due ≡ AirportRefused
IsDueOfJudgement (Ok airport) Accepted due = Accepted airport

-- what is due of an airport file, by what is due where its airport is accepted
abbrev pub IsDueOfAirport : Option (List ℕ) → (Airport → Type 0) → Status → Type 0
IsDueOfAirport file Accepted due = IsDueOfFile file airport_limit (λ bytes. IsDueOfJudgement (airport_of bytes) Accepted due) due

-- of the two files of a run or an import, by what is due where the airport is accepted, of the bytes of the other within its limit
abbrev pub IsDueOfRun : Files → FileNames → (Airport → List ℕ → Type 0) → Status → Type 0
IsDueOfRun files names Accepted due =
    IsDueOfAirport (file_of files names.airport) (λ airport. IsDueOfFile (file_of files names.commands) commands_limit (Accepted airport) due) due
