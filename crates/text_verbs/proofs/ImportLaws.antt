-- How an import ends whose schedule gave no text.
use Rattle.std.proofs.Common.{◌≡◌, inl, inr, ℕ, List, Option, Err, refl}
use Rattle.taxi_base.specs.Airport.{Airport}
use Rattle.taxi_io.specs.Files.{Files}
use Rattle.taxi_io.specs.Written.{Output}
use Rattle.schedule_import.specs.declared.import.ScheduleRefused.{ScheduleRefused as WhyRefused}
use Rattle.schedule_import.specs.declared.import.ScheduleRefused.TheVariants as why
use Rattle.schedule_import.specs.Schedule.{import_of}
use Rattle.program_words.specs.Verb.{FileNames, Import}
use Rattle.program_files.specs.declared.status.Status.{Status}
use Rattle.program_files.specs.declared.status.Status.TheVariants as status
use Rattle.program_files.specs.declared.stop.Stop.TheVariants as stop
use Rattle.program_files.specs.Inputs.{AreAccepted}
use Rattle.program_files.specs.Stops.{IsReadEnd}
use Rattle.text_verbs.specs.Texts.{IsImportText}
use Rattle.text_verbs.specs.Refused.{RefusesWith}

pub schedule-ends : (told : Option Files) (names : FileNames) (reads writes : ℕ × ℕ) (taken : Output × Output) (airport : Airport) (schedule : List ℕ)
    (refused : WhyRefused) (ended : Status) → AreAccepted told names airport schedule → (refused ≡ why.FirstRow → import_of airport schedule ≡ Err why.FirstRow)
    → (refused ≡ why.BadStart → import_of airport schedule ≡ Err why.BadStart) → RefusesWith refused writes taken ended
    → IsReadEnd (IsImportText told names) told (Import names) reads writes taken ended
schedule-ends told names reads writes taken airport schedule why.FirstRow ended accepted first second refuses =
    inr (status.ScheduleRefused, _, inl (record { airport = airport; schedule = schedule; accepted = accepted; comes_to = first refl }, refl), refuses)
schedule-ends told names reads writes taken airport schedule why.BadStart ended accepted first second refuses =
    inr (status.ScheduleRefused, _, inr (record { airport = airport; schedule = schedule; accepted = accepted; comes_to = second refl }, refl), refuses)
schedule-ends told names reads writes taken airport schedule why.Memory ended accepted first second refuses = inl (stop.Memory, tt, refuses)
