-- The status that is due, where the files are told: each outcome has it.
use Rattle.std.proofs.Common.{◌≡◌, ◌⊎◌, inl, inr, ℕ, List, refl, sym, subst, Option, Some, None, Result, Ok, Err}
use Rattle.taxi_base.specs.Airport.{Airport}
use Rattle.taxi_text.specs.Lines.{commands_of}
use Rattle.taxi_io.specs.Counts.{Rose}
use Rattle.taxi_io.specs.Files.{Files, file_of}
use Rattle.airport_file.specs.Reading.{RecordFault}
use Rattle.schedule_import.specs.declared.import.ScheduleRefused.{ScheduleRefused as WhyRefused}
use Rattle.schedule_import.specs.declared.import.ScheduleRefused.TheVariants as why
use Rattle.schedule_import.specs.Schedule.{import_of}
use Rattle.program_files.specs.declared.status.Status.{Status}
use Rattle.program_files.specs.declared.status.Status.TheVariants as status
use Rattle.program_words.specs.Verb.{FileNames, Traffic, Verb, Route, Check, Generate, Migrate, Import}
use Rattle.program_files.specs.Inputs.{airport_limit, transcript_limit, IsRefused, IsReadFault, IsTooLarge}
use Rattle.text_verbs.specs.Texts.{IsImported}
use Rattle.taxi_cli.specs.Outcomes.{IsDoneText, IsWrongText, IsScheduleRefusedText}
use Rattle.program_files.specs.Due.{IsDueOfFile}
use Rattle.program_files.proofs.DueLaws.{file-due, longer-due, judged-due, run-due, run-large}
use Rattle.taxi_cli.specs.Due.{IsDueOfTranscript, IsDueOfImport, IsDueOf}
use Rattle.taxi_cli.specs.Halts.{IsLargeText}
use Rattle.taxi_cli.specs.Endings.{Call, Ends}

-- what is due of a check where its airport and commands are accepted
abbrev OfCheck : Files → List ℕ → Status → Airport → List ℕ → Type 0
OfCheck files transcript due airport commands =
    IsDueOfFile (file_of files transcript) transcript_limit (λ text. IsDueOfTranscript airport (commands_of commands) text due) due

-- what is due of an import where its airport is accepted
abbrev OfImport : Status → Airport → List ℕ → Type 0
OfImport due airport schedule = IsDueOfImport (import_of airport schedule) due

import-due : (files : Files) (names : FileNames) (outcome : Result (List ℕ) WhyRefused) (due : Status)
    → IsImported (Some files) names outcome → IsDueOfImport outcome due → IsDueOf files (Some (Import names)) due
import-due files names outcome due t holds =
    run-due files names t.airport t.schedule (OfImport due) due t.accepted (subst (λ (o : Result (List ℕ) WhyRefused). IsDueOfImport o due) (sym t.comes_to) holds)

done-due : (files : Files) (asked : Verb) (text : List ℕ) → IsDoneText (Some files) asked text → IsDueOf files (Some asked) status.Done
done-due files (Route names) text t = run-due files names t.airport t.commands (λ airport commands. status.Done ≡ status.Done) status.Done t.accepted refl
done-due files (Check names transcript) text t =
    run-due files names t.airport t.commands (OfCheck files transcript status.Done) status.Done t.files.accepted
    (file-due files transcript t.bytes transcript_limit (λ text. IsDueOfTranscript t.airport (commands_of t.commands) text status.Done) status.Done t.files.file t.files.within
    (inl ((t.blocks, t.right), refl)))
done-due files (Generate traffic) text t = refl
done-due files (Migrate airport) text t = judged-due files airport (Ok t.airport) _ status.Done t.accepted refl
done-due files (Import names) text t = import-due files names (Ok text) status.Done t refl

wrong-due : (files : Files) (asked : Verb) (text : List ℕ) → IsWrongText (Some files) asked text → IsDueOf files (Some asked) status.Wrong
wrong-due files (Route names) text t = absurd t
wrong-due files (Check names transcript) text t =
    run-due files names t.airport t.commands (OfCheck files transcript status.Wrong) status.Wrong t.files.accepted
    (file-due files transcript t.bytes transcript_limit (λ text. IsDueOfTranscript t.airport (commands_of t.commands) text status.Wrong) status.Wrong t.files.file t.files.within
    (inr ((t.number, t.why, t.wrong), refl)))
wrong-due files (Generate traffic) text t = absurd t
wrong-due files (Migrate airport) text t = absurd t
wrong-due files (Import names) text t = absurd t

schedule-due : (files : Files) (asked : Verb) (text : List ℕ) → IsScheduleRefusedText (Some files) asked text → IsDueOf files (Some asked) status.ScheduleRefused
schedule-due files (Route names) text t = absurd t
schedule-due files (Check names transcript) text t = absurd t
schedule-due files (Generate traffic) text t = absurd t
schedule-due files (Migrate airport) text t = absurd t
schedule-due files (Import names) text (inl t) = import-due files names (Err why.FirstRow) status.ScheduleRefused t.0 refl
schedule-due files (Import names) text (inr t) = import-due files names (Err why.BadStart) status.ScheduleRefused t.0 refl

refused-due : (files : Files) (asked : Verb) (fault : RecordFault) → IsRefused (Some files) asked fault → IsDueOf files (Some asked) status.AirportRefused
refused-due files (Route names) fault judged = judged-due files names.airport (Err fault) _ status.AirportRefused judged refl
refused-due files (Check names transcript) fault judged = judged-due files names.airport (Err fault) _ status.AirportRefused judged refl
refused-due files (Generate traffic) fault judged = absurd judged
refused-due files (Migrate airport) fault judged = judged-due files airport (Err fault) _ status.AirportRefused judged refl
refused-due files (Import names) fault judged = judged-due files names.airport (Err fault) _ status.AirportRefused judged refl

too_large-due : (files : Files) (asked : Verb) → IsTooLarge (Some files) asked → IsDueOf files (Some asked) status.TooLarge
too_large-due files (Route names) large = run-large files names (λ airport commands. status.TooLarge ≡ status.Done) large
too_large-due files (Check names transcript) (inl large) = run-large files names (OfCheck files transcript status.TooLarge) large
too_large-due files (Check names transcript) (inr (airport, commands, accepted, longer)) =
    run-due files names airport commands (OfCheck files transcript status.TooLarge) status.TooLarge accepted
    (longer-due files transcript transcript_limit (λ text. IsDueOfTranscript airport (commands_of commands) text status.TooLarge) longer)
too_large-due files (Generate traffic) large = absurd large
too_large-due files (Migrate airport) longer = longer-due files airport airport_limit _ longer
too_large-due files (Import names) large = run-large files names (OfImport status.TooLarge) large

fault-rose : (asked : Verb) (reads : ℕ × ℕ) → IsReadFault asked reads → Rose reads.0 reads.1
fault-rose (Route names) reads rose = rose
fault-rose (Check names transcript) reads rose = rose
fault-rose (Generate traffic) reads rose = absurd rose
fault-rose (Migrate airport) reads rose = rose
fault-rose (Import names) reads rose = rose

-- a file is too large where the line is told that says so
pub large-is : (told : Option Files) (asked : Verb) (text : List ℕ) → IsLargeText told asked text → IsTooLarge told asked
large-is told (Route names) text (inl large) = inl large.0
large-is told (Route names) text (inr (file, is_file, longer, halted)) = inr (halted.airport, halted.accepted, (file, is_file, longer))
large-is told (Check names transcript) text large = large.0
large-is told (Generate traffic) text large = large.0
large-is told (Migrate airport) text large = large.0
large-is told (Import names) text large = large.0

-- a call that ends where no fault was counted ends with the status that is due, but for want of memory
pub due-is : (call : Call) (files : Files) (asked : Option Verb) (ended : Status) → call.files ≡ Some files → Ends call asked ended
    → (Rose call.reads.0 call.reads.1 → ⊥) → (Rose call.writes.0 call.writes.1 → ⊥) → IsDueOf files asked ended ⊎ (ended ≡ status.Memory)
due-is call files None status.Usage told ends no_read no_write = inl refl
due-is call files None status.Done told ends no_read no_write = absurd ends.1
due-is call files None status.AirportRefused told ends no_read no_write = absurd ends.1
due-is call files None status.ReadFault told ends no_read no_write = absurd ends.1
due-is call files None status.TooLarge told ends no_read no_write = absurd ends.1
due-is call files None status.Wrong told ends no_read no_write = absurd ends.1
due-is call files None status.ScheduleRefused told ends no_read no_write = absurd ends.1
due-is call files (Some asked) status.Usage told ends no_read no_write = absurd ends.1
due-is call files (Some asked) status.Done told ends no_read no_write = inl (done-due files asked ends.0 (subst (λ t. IsDoneText t asked ends.0) told ends.1))
due-is call files (Some asked) status.AirportRefused told ends no_read no_write =
    inl (refused-due files asked ends.1.0 (subst (λ t. IsRefused t asked ends.1.0) told ends.1.1))
due-is call files (Some asked) status.ReadFault told ends no_read no_write = absurd (no_read (fault-rose asked call.reads ends.1.0))
due-is call files (Some asked) status.TooLarge told ends no_read no_write = inl (too_large-due files asked (subst (λ t. IsTooLarge t asked) told (large-is call.files asked ends.0 ends.1)))
due-is call files (Some asked) status.Wrong told ends no_read no_write = inl (wrong-due files asked ends.0 (subst (λ t. IsWrongText t asked ends.0) told ends.1))
due-is call files (Some asked) status.ScheduleRefused told ends no_read no_write =
    inl (schedule-due files asked ends.0 (subst (λ t. IsScheduleRefusedText t asked ends.0) told ends.1))
due-is call files asked status.WriteFault told ends no_read no_write = absurd (no_write ends.0)
due-is call files asked status.Memory told ends no_read no_write = inr refl

-- made traffic ends well where no write fails, but for want of memory
pub made-is : (call : Call) (traffic : Traffic) (ended : Status) → Ends call (Some (Generate traffic)) ended → (Rose call.writes.0 call.writes.1 → ⊥)
    → (ended ≡ status.Done) ⊎ (ended ≡ status.Memory)
made-is call traffic status.Done ends no_write = inl refl
made-is call traffic status.Memory ends no_write = inr refl
made-is call traffic status.WriteFault ends no_write = absurd (no_write ends.0)
made-is call traffic status.Usage ends no_write = absurd ends.1
made-is call traffic status.AirportRefused ends no_write = absurd ends.1.1
made-is call traffic status.ReadFault ends no_write = absurd ends.1.0
made-is call traffic status.TooLarge ends no_write = absurd ends.1.0
made-is call traffic status.Wrong ends no_write = absurd ends.1
made-is call traffic status.ScheduleRefused ends no_write = absurd ends.1
