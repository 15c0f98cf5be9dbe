-- How does the writing of a whole text decide the status? No public clause cites this file.
use Rattle.std.specs.Prelude.{◌≡◌, ℕ, List, Result, Ok, Err, OnOk, OnErr, IsErrOf}
use Rattle.taxi_io.specs.Counts.{Rose}
use Rattle.taxi_io.specs.Written.{Output, Grew, GrewInPart, Handed, HandedInPart}
use Rattle.taxi_io.specs.declared.trouble.Trouble.{Trouble}
use Rattle.taxi_io.specs.declared.trouble.Trouble.TheVariants as trouble
use Rattle.program_files.specs.declared.status.Status.{Status}
use Rattle.program_files.specs.declared.status.Status.TheVariants as status

-- the status after a text was to be written that goes with a status as a whole
abbrev pub status_after : Result (Unit {0}) Trouble → Status → Status
status_after (Ok done) whole = whole
status_after (Err trouble.Failed) whole = status.WriteFault
status_after (Err trouble.Memory) whole = status.Memory

-- what is true of the writing of a text, by the sink's counts of faults and its output before and after
pub record IsWriting (text : List ℕ) (faults : ℕ × ℕ) (taken : Output × Output) (written : Result (Unit {0}) Trouble) : Type 0 where
  pub whole : OnOk written (Grew taken.0 taken.1 text)
  pub front : OnErr written (GrewInPart taken.0 taken.1 text)
  pub handed : OnOk written (Handed taken.0 taken.1 text)
  pub in_part : OnErr written (HandedInPart taken.0 taken.1 text)
  pub failed : IsErrOf written trouble.Failed → Rose faults.0 faults.1

-- the writing decided the status
abbrev pub EndsWith : List ℕ → Status → ℕ × ℕ → Output × Output → Status → Type 0
EndsWith text whole faults taken status =
    (written : Result (Unit {0}) Trouble) × IsWriting text faults taken written × (status ≡ status_after written whole)
