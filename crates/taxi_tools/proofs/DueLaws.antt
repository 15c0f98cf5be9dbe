-- The status that is due, where the files are told: each ending has it.
use Rattle.std.proofs.Common.{◌≡◌, ◌≤◌, ◌-◌, ◌⊎◌, inl, inr, ℕ, List, length, slice_get, refl, sym, subst, Option, Some, None, Ok, Err, arith}
use Rattle.std.proofs.lemmas.Option.{slice_get_within}
use Rattle.taxi_text.specs.Lines.{commands_of}
use Rattle.taxi_io.specs.Counts.{Rose}
use Rattle.taxi_io.specs.Files.{Files}
use Rattle.airport_file.specs.Reading.{RecordFault}
use Rattle.program_files.specs.declared.status.Status.{Status}
use Rattle.program_files.specs.declared.status.Status.TheVariants as status
use Rattle.program_files.specs.Call.{Call}
use Rattle.program_files.specs.Inputs.{airport_limit}
use Rattle.program_files.proofs.DueLaws.{longer-due, judged-due, run-due, run-large}
use Rattle.tool_words.specs.Verb.{Verb, OfAirport, OfRun, Explain, Json}
use Rattle.taxi_tools.specs.Outcomes.{IsDoneText, IsWrongText}
use Rattle.taxi_tools.specs.Reads.{IsRefused}
use Rattle.taxi_tools.specs.Halts.{IsLargeText}
use Rattle.taxi_tools.specs.Due.{IsDueOf, IsDueOfCommand}
use Rattle.taxi_tools.specs.Endings.{Ends}

-- the command before which a run ended is one of the commands
among : (commands : List (List ℕ)) (number : ℕ) (line : List ℕ) → Some line ≡ slice_get commands (number - 1) → number ≤ length commands
among commands number line is = let within = slice_get_within commands (number - 1) line (sym is) in omega (arith, within)

done-due : (files : Files) (asked : Verb) (text : List ℕ) → IsDoneText (Some files) asked text → IsDueOf files (Some asked) status.Done
done-due files (OfAirport airport tool) text t = judged-due files airport (Ok t.airport) _ status.Done t.accepted refl
done-due files (OfRun names tool) text t = run-due files names t.airport t.commands (λ airport commands. status.Done ≡ status.Done) status.Done t.accepted refl
done-due files (Explain names number) text t =
    run-due files names t.airport t.commands (λ airport commands. IsDueOfCommand (commands_of commands) number status.Done) status.Done t.accepted
    (inl (among (commands_of t.commands) number t.whole.line t.whole.run.next_is, refl))
done-due files (Json names) text t = run-due files names t.airport t.commands (λ airport commands. status.Done ≡ status.Done) status.Done t.accepted refl

refused-due : (files : Files) (asked : Verb) (fault : RecordFault) → IsRefused (Some files) asked fault → IsDueOf files (Some asked) status.AirportRefused
refused-due files (OfAirport airport tool) fault judged = judged-due files airport (Err fault) _ status.AirportRefused judged refl
refused-due files (OfRun names tool) fault judged = judged-due files names.airport (Err fault) _ status.AirportRefused judged refl
refused-due files (Explain names number) fault judged = judged-due files names.airport (Err fault) _ status.AirportRefused judged refl
refused-due files (Json names) fault judged = judged-due files names.airport (Err fault) _ status.AirportRefused judged refl

large-due : (files : Files) (asked : Verb) (text : List ℕ) → IsLargeText (Some files) asked text → IsDueOf files (Some asked) status.TooLarge
large-due files (OfAirport airport tool) text longer = longer-due files airport airport_limit _ longer.0
large-due files (OfRun names tool) text large = run-large files names (λ airport commands. status.TooLarge ≡ status.Done) large.0
large-due files (Explain names number) text large = run-large files names (λ airport commands. IsDueOfCommand (commands_of commands) number status.TooLarge) large.0
large-due files (Json names) text (inl longer) = run-large files names (λ airport commands. status.TooLarge ≡ status.Done) (inl longer.0)
large-due files (Json names) text (inr (file, is, more, t)) = run-large files names (λ airport commands. status.TooLarge ≡ status.Done) (inr (t.airport, t.accepted, (file, is, more)))

wrong-due : (files : Files) (asked : Verb) (text : List ℕ) → IsWrongText (Some files) asked text → IsDueOf files (Some asked) status.Wrong
wrong-due files (OfAirport airport tool) text wrong = absurd wrong
wrong-due files (OfRun names tool) text wrong = absurd wrong
wrong-due files (Explain names number) text (lacks, line) =
    run-due files names lacks.airport lacks.commands (λ airport commands. IsDueOfCommand (commands_of commands) number status.Wrong) status.Wrong lacks.accepted (inr (lacks.fewer, refl))
wrong-due files (Json names) text wrong = absurd wrong

-- a call that ends where no fault was counted ends with the status that is due, but for want of memory
pub due-is : (call : Call) (files : Files) (asked : Option Verb) (ended : Status) → call.files ≡ Some files → Ends call asked ended
    → (Rose call.reads.0 call.reads.1 → ⊥) → (Rose call.writes.0 call.writes.1 → ⊥) → IsDueOf files asked ended ⊎ (ended ≡ status.Memory)
due-is call files None status.Usage told ends no_read no_write = inl refl
due-is call files None status.Done told ends no_read no_write = absurd ends.1
due-is call files None status.AirportRefused told ends no_read no_write = absurd ends.1
due-is call files None status.ReadFault told ends no_read no_write = absurd ends.1
due-is call files None status.TooLarge told ends no_read no_write = absurd ends.1
due-is call files None status.Wrong told ends no_read no_write = absurd ends.1
due-is call files None status.ScheduleRefused told ends no_read no_write = absurd ends.1
due-is call files (Some asked) status.Usage told ends no_read no_write = absurd ends.1
due-is call files (Some asked) status.Done told ends no_read no_write = inl (done-due files asked ends.0 (subst (λ t. IsDoneText t asked ends.0) told ends.1))
due-is call files (Some asked) status.AirportRefused told ends no_read no_write = inl (refused-due files asked ends.1.0 (subst (λ t. IsRefused t asked ends.1.0) told ends.1.1))
due-is call files (Some asked) status.ReadFault told ends no_read no_write = absurd (no_read ends.1.0)
due-is call files (Some asked) status.TooLarge told ends no_read no_write = inl (large-due files asked ends.0 (subst (λ t. IsLargeText t asked ends.0) told ends.1))
due-is call files (Some asked) status.Wrong told ends no_read no_write = inl (wrong-due files asked ends.0 (subst (λ t. IsWrongText t asked ends.0) told ends.1))
due-is call files (Some asked) status.ScheduleRefused told ends no_read no_write = absurd ends.1
due-is call files asked status.WriteFault told ends no_read no_write = absurd (no_write ends.0)
due-is call files asked status.Memory told ends no_read no_write = inr refl
