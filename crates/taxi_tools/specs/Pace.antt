-- How much of the command file is taken when an object or the last line of `json` is written?
use Rattle.std.specs.Prelude.{List, ℕ, Option, Some, ⊤}
use Rattle.command_run.specs.HowFar.{Told}
use Rattle.command_run.specs.Told.{AreTold, IsPromptTold}
use Rattle.command_run.specs.Pace.{HaveBegun, HaveBegunFirst, KeepsPaceBy, EndsBeforeCommands}
use Rattle.program_files.specs.declared.status.Status.{Status}
use Rattle.program_files.specs.Call.{Call}
use Rattle.program_words.specs.Verb.{FileNames}
use Rattle.tool_words.specs.Verb.{Verb, Json}
use Rattle.taxi_tools.specs.Objects.{object_of}

-- Each command has its object before more of the command file is taken. Where reading ends in that file, exactly the commands have objects
-- whose lines have ended in what was taken. Where an object can't be written whole, the last read is the one in which the line of its
-- command ended.
abbrev pub ObjectsKeepPace : Call → FileNames → Told → Status → Type 0
ObjectsKeepPace = KeepsPaceBy (AreTold object_of) (IsPromptTold object_of)

-- `json` does so where both files were begun, and until the command file is begun it writes no object. No other verb writes before all is
-- read. By what is left of a command file, and by the names that were tried before and after.
abbrev pub KeepsPace : Call → Option Verb → (FileNames → Told) → List (List ℕ) × List (List ℕ) → Status → Type 0
KeepsPace call (Some (Json names)) left tried ended =
    (HaveBegun names tried.0 tried.1 → ObjectsKeepPace call names (left names) ended)
    × (HaveBegunFirst names tried.0 tried.1 → EndsBeforeCommands call names ended)
KeepsPace call asked left tried ended = ⊤
