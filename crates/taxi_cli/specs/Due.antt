-- Which status is due, where the files are told?
use Rattle.std.specs.Prelude.{◌≡◌, ◌⊎◌, ℕ, List, Option, Some, None, Result, Ok, Err}
use Rattle.taxi_base.specs.Airport.{Airport}
use Rattle.taxi_text.specs.Lines.{commands_of}
use Rattle.taxi_io.specs.Files.{Files, file_of}
use Rattle.replies.specs.declared.block.Block.{Block}
use Rattle.schedule_import.specs.declared.import.ScheduleRefused.{ScheduleRefused as WhyRefused}
use Rattle.schedule_import.specs.Schedule.{import_of}
use Rattle.transcript_check.specs.declared.failure.Failure.{Failure}
use Rattle.program_files.specs.declared.status.Status.{Status}
use Rattle.program_files.specs.declared.status.Status.TheVariants.{Done, Usage, Wrong, ScheduleRefused}
use Rattle.program_words.specs.Verb.{Verb, Route, Check, Generate, Migrate, Import}
use Rattle.transcript_check.specs.Checks.{IsRight, IsWrongAt}
use Rattle.program_files.specs.Inputs.{transcript_limit}
use Rattle.program_files.specs.Due.{IsDueOfFile, IsDueOfAirport, IsDueOfRun}

-- what is due of a transcript
abbrev pub IsDueOfTranscript : Airport → List (List ℕ) → List ℕ → Status → Type 0
IsDueOfTranscript airport commands text due =
    (((blocks : List Block) × IsRight airport commands text blocks) × (due ≡ Done))
    ⊎ (((number : ℕ) × (why : Failure) × IsWrongAt airport commands text number why) × (due ≡ Wrong))

-- what is due of a schedule, by what it comes to
abbrev pub IsDueOfImport : Result (List ℕ) WhyRefused → Status → Type 0
IsDueOfImport (Ok text) due = due ≡ Done
IsDueOfImport (Err why) due = due ≡ ScheduleRefused

abbrev pub IsDueOf : Files → Option Verb → Status → Type 0
IsDueOf files None due = due ≡ Usage
IsDueOf files (Some (Route names)) due = IsDueOfRun files names (λ airport commands. due ≡ Done) due
IsDueOf files (Some (Check names transcript)) due =
    IsDueOfRun files names
    (λ airport commands. IsDueOfFile (file_of files transcript) transcript_limit (λ text. IsDueOfTranscript airport (commands_of commands) text due) due) due
IsDueOf files (Some (Generate traffic)) due = due ≡ Done
IsDueOf files (Some (Migrate airport)) due = IsDueOfAirport (file_of files airport) (λ airport. due ≡ Done) due
IsDueOf files (Some (Import names)) due = IsDueOfRun files names (λ airport schedule. IsDueOfImport (import_of airport schedule) due) due
