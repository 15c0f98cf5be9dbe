-- How does `json` end at an accepted airport? No public clause cites this file.
use Rattle.std.specs.Prelude.{◌≡◌, ℕ, List}
use Rattle.taxi_base.specs.Airport.{Airport}
use Rattle.command_run.specs.declared.refused.RunRefused.{RunRefused}
use Rattle.command_run.specs.declared.refused.RunRefused.TheVariants as refused
use Rattle.command_run.specs.HowFar.{Told, Pieces, Outputs}
use Rattle.command_run.specs.RunEnds.{RunCall, IsRunEndBy}
use Rattle.command_run.specs.Told.{IsWholeTold, IsStoppedTold, IsPromptTold}
use Rattle.reply_json.specs.Lines.{done_line}
use Rattle.program_files.specs.declared.status.Status.{Status}
use Rattle.taxi_tools.specs.Objects.{object_of}

-- how much was told where the run didn't come to the end of its file, and that a failed write was prompt
abbrev pub AreStopped : Airport → ℕ → Told → Pieces → Outputs → RunRefused → Type 0
AreStopped airport limit left given written why =
    IsStoppedTold object_of airport limit left written why × (why ≡ refused.WriteFault → IsPromptTold object_of airport left given written)

abbrev pub IsRunEnd : RunCall → Airport → List ℕ → Status → Type 0
IsRunEnd = IsRunEndBy (IsWholeTold object_of) AreStopped done_line
