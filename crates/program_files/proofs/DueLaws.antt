-- The status that is due of files that are told.
use Rattle.std.proofs.Common.{◌≤◌, inl, inr, ℕ, List, length, refl, sym, subst, Option, Some, Result, Ok}
use Rattle.taxi_base.specs.Airport.{Airport}
use Rattle.taxi_io.specs.Files.{Files, IsFile, IsLonger, file_of}
use Rattle.airport_file.specs.Reading.{RecordFault}
use Rattle.program_files.specs.declared.status.Status.{Status}
use Rattle.program_files.specs.declared.status.Status.TheVariants as status
use Rattle.program_words.specs.Verb.{FileNames}
use Rattle.program_files.specs.Inputs.{airport_limit, commands_limit, IsJudged, AreAccepted, IsRunTooLarge}
use Rattle.program_files.specs.Due.{IsDueOfFile, IsDueOfJudgement, IsDueOfAirport, IsDueOfRun}

pub file-due : (files : Files) (name bytes : List ℕ) (limit : ℕ) (Within : List ℕ → Type 0) (due : Status)
    → IsFile (Some files) name bytes → length bytes ≤ limit → Within bytes → IsDueOfFile (file_of files name) limit Within due
file-due files name bytes limit Within due file within holds = subst (λ (f : Option (List ℕ)). IsDueOfFile f limit Within due) (sym file) (inr (within, holds))

pub longer-due : (files : Files) (name : List ℕ) (limit : ℕ) (Within : List ℕ → Type 0)
    → IsLonger (Some files) name limit → IsDueOfFile (file_of files name) limit Within status.TooLarge
longer-due files name limit Within longer = subst (λ (f : Option (List ℕ)). IsDueOfFile f limit Within status.TooLarge) (sym longer.1) (inl (longer.2, refl))

pub judged-due : (files : Files) (name : List ℕ) (judgement : Result Airport RecordFault) (Accepted : Airport → Type 0) (due : Status)
    → IsJudged (Some files) name judgement → IsDueOfJudgement judgement Accepted due → IsDueOfAirport (file_of files name) Accepted due
judged-due files name judgement Accepted due judged holds =
    file-due files name judged.bytes airport_limit _ due judged.file judged.within
    (subst (λ (j : Result Airport RecordFault). IsDueOfJudgement j Accepted due) (sym judged.judged) holds)

pub run-due : (files : Files) (names : FileNames) (airport : Airport) (commands : List ℕ) (Accepted : Airport → List ℕ → Type 0) (due : Status)
    → AreAccepted (Some files) names airport commands → Accepted airport commands → IsDueOfRun files names Accepted due
run-due files names airport commands Accepted due accepted holds =
    judged-due files names.airport (Ok airport) _ due accepted.accepted (file-due files names.commands commands commands_limit _ due accepted.file accepted.within holds)

pub run-large : (files : Files) (names : FileNames) (Accepted : Airport → List ℕ → Type 0) → IsRunTooLarge (Some files) names → IsDueOfRun files names Accepted status.TooLarge
run-large files names Accepted (inl longer) = longer-due files names.airport airport_limit _ longer
run-large files names Accepted (inr (airport, accepted, longer)) =
    judged-due files names.airport (Ok airport) _ status.TooLarge accepted (longer-due files names.commands commands_limit _ longer)
