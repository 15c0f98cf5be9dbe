-- What does a whole call promise, by the status with which it ends?
use Rattle.std.specs.Prelude.{◌≡◌, ◌≤◌, ◌⊎◌, ℕ, List, Option, Some, None}
use Rattle.taxi_io.specs.Counts.{Rose}
use Rattle.taxi_io.specs.Files.{Files}
use Rattle.program_files.specs.declared.status.Status.{Status}
use Rattle.program_files.specs.declared.status.Status.TheVariants.{Usage, WriteFault, Memory}
use Rattle.program_files.specs.Call.{Call}
use Rattle.program_words.specs.Verb.{FileNames}
use Rattle.command_run.specs.HowFar.{Told}
use Rattle.tool_words.specs.Verb.{Verb}
use Rattle.taxi_tools.specs.Due.{IsDueOf}
use Rattle.taxi_tools.specs.Endings.{Ends}
use Rattle.taxi_tools.specs.Handed.{IsHandedOver}
use Rattle.taxi_tools.specs.Order.{IsInOrder}
use Rattle.taxi_tools.specs.Pace.{KeepsPace}

-- What `tools` promises, clause by clause, of what the words ask for; by what is left of a command file, the names that were tried before and
-- after, and that the shelf is as it was. No file is tried where memory runs out before the words are known.
pub record KeepsPromises (call : Call) (asked : Option Verb) (left : FileNames → Told) (tried : List (List ℕ) × List (List ℕ)) (Unread : Type 0) (ended : Status) : Type 0 where
  pub ends : Ends call asked ended
  pub usage : asked ≡ None → (ended ≡ Usage) ⊎ ((ended ≡ WriteFault) ⊎ (ended ≡ Memory))
  pub unread : asked ≡ None → Unread
  pub complete : (files : Files) → call.files ≡ Some files → (Rose call.reads.0 call.reads.1 → ⊥) → (Rose call.writes.0 call.writes.1 → ⊥)
      → IsDueOf files asked ended ⊎ (ended ≡ Memory)
  pub handed : IsHandedOver call asked ended
  pub pace : KeepsPace call asked left tried ended
  pub order : IsInOrder call.files asked tried.0 tried.1 ⊎ ((ended ≡ Memory) × Unread)
  pub reads_later : call.reads.0 ≤ call.reads.1
  pub writes_later : call.writes.0 ≤ call.writes.1
