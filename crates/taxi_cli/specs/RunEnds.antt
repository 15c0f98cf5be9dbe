-- How does a run end that doesn't come to the end of its command file? No public clause cites this file.
use Rattle.std.specs.Prelude.{ℕ, List}
use Rattle.taxi_base.specs.Airport.{Airport}
use Rattle.transcripts.specs.Runs.{done_line}
use Rattle.command_run.specs.Answered.{IsWholeRun, IsStopped}
use Rattle.command_run.specs.RunEnds.{RunCall, IsRunEndBy}
use Rattle.program_files.specs.declared.status.Status.{Status}

-- a run at this airport over the command file of this name ends so
abbrev pub IsRunEnd : RunCall → Airport → List ℕ → Status → Type 0
IsRunEnd = IsRunEndBy IsWholeRun IsStopped done_line
