-- What does a call do for words of a form? No public clause cites this file.
use Rattle.std.specs.Prelude.{◌≤◌, ℕ, List, Some}
use Rattle.program_files.specs.declared.status.Status.{Status}
use Rattle.program_files.specs.Call.{Call}
use Rattle.program_words.specs.Verb.{FileNames}
use Rattle.command_run.specs.HowFar.{Told}
use Rattle.tool_words.specs.Verb.{Verb}
use Rattle.taxi_tools.specs.Endings.{Ends}
use Rattle.taxi_tools.specs.Handed.{IsHandedOver}
use Rattle.taxi_tools.specs.Order.{IsInOrder}
use Rattle.taxi_tools.specs.Pace.{KeepsPace}

-- what is asked for is carried out, by what is left of a command file, and by the names that were tried before and after
pub record IsCarriedOut (call : Call) (asked : Verb) (left : FileNames → Told) (tried : List (List ℕ) × List (List ℕ)) (ended : Status) : Type 0 where
  pub ends : Ends call (Some asked) ended
  pub handed : IsHandedOver call (Some asked) ended
  pub pace : KeepsPace call (Some asked) left tried ended
  pub order : IsInOrder call.files (Some asked) tried.0 tried.1
  pub reads_later : call.reads.0 ≤ call.reads.1
  pub writes_later : call.writes.0 ≤ call.writes.1
