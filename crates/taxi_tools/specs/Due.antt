-- Which status is due, where the files are told?
use Rattle.std.specs.Prelude.{◌≡◌, ◌<◌, ◌≤◌, ◌⊎◌, ℕ, List, length, Option, Some, None}
use Rattle.taxi_text.specs.Lines.{commands_of}
use Rattle.taxi_io.specs.Files.{Files, file_of}
use Rattle.program_files.specs.declared.status.Status.{Status}
use Rattle.program_files.specs.declared.status.Status.TheVariants.{Done, Usage, Wrong}
use Rattle.program_files.specs.Due.{IsDueOfAirport, IsDueOfRun}
use Rattle.tool_words.specs.Verb.{Verb, OfAirport, OfRun, Explain, Json}

-- what is due of the command of a number, which is one of the commands, or beyond the last
abbrev pub IsDueOfCommand : List (List ℕ) → ℕ → Status → Type 0
IsDueOfCommand commands number due = ((number ≤ length commands) × (due ≡ Done)) ⊎ ((length commands < number) × (due ≡ Wrong))

abbrev pub IsDueOf : Files → Option Verb → Status → Type 0
IsDueOf files None due = due ≡ Usage
IsDueOf files (Some (OfAirport airport tool)) due = IsDueOfAirport (file_of files airport) (λ airport. due ≡ Done) due
IsDueOf files (Some (OfRun names tool)) due = IsDueOfRun files names (λ airport commands. due ≡ Done) due
IsDueOf files (Some (Explain names number)) due = IsDueOfRun files names (λ airport commands. IsDueOfCommand (commands_of commands) number due) due
IsDueOf files (Some (Json names)) due = IsDueOfRun files names (λ airport commands. due ≡ Done) due
