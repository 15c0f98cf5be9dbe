-- What does a whole call promise, by the status with which it ends?
use Rattle.std.specs.Prelude.{◌≡◌, ◌≤◌, ◌⊎◌, Option, Some, None}
use Rattle.taxi_io.specs.Counts.{Rose}
use Rattle.taxi_io.specs.Files.{Files}
use Rattle.command_run.specs.Answered.{Told, Pieces}
use Rattle.program_files.specs.declared.status.Status.{Status}
use Rattle.program_files.specs.declared.status.Status.TheVariants.{Done, Usage, WriteFault, Memory}
use Rattle.program_words.specs.Verb.{FileNames, Traffic, Verb, Route, Generate}
use Rattle.program_files.specs.Inputs.{IsInOrder}
use Rattle.taxi_cli.specs.Due.{IsDueOf}
use Rattle.taxi_cli.specs.Endings.{Call, Ends}
use Rattle.taxi_cli.specs.Handed.{IsInPieces}
use Rattle.taxi_cli.specs.Headline.{Headline}
use Rattle.taxi_cli.specs.Pace.{HaveBegun, HaveBegunFirst, KeepsPace, EndsBeforeCommands}

-- What `taxi` promises, clause by clause, of what the words ask for; by what is left of a run's command file, the names that were tried
-- before and after, and that the shelf is as it was. No file is tried where memory runs out before the words are known.
pub record KeepsPromises (call : Call) (asked : Option Verb) (left : FileNames → Told) (tried : Pieces) (Unread : Type 0) (ended : Status) : Type 0 where
  pub ends : Ends call asked ended
  pub usage : asked ≡ None → (ended ≡ Usage) ⊎ ((ended ≡ WriteFault) ⊎ (ended ≡ Memory))
  pub unread : asked ≡ None → Unread
  pub complete : (files : Files) → call.files ≡ Some files → (Rose call.reads.0 call.reads.1 → ⊥) → (Rose call.writes.0 call.writes.1 → ⊥)
      → IsDueOf files asked ended ⊎ (ended ≡ Memory)
  pub headline : (names : FileNames) → asked ≡ Some (Route names) → Headline call names ended
  pub made : (traffic : Traffic) → asked ≡ Some (Generate traffic)
      → Unread × ((Rose call.writes.0 call.writes.1 → ⊥) → (ended ≡ Done) ⊎ (ended ≡ Memory))
  pub pace : (names : FileNames) → asked ≡ Some (Route names) → HaveBegun names tried.0 tried.1 → KeepsPace call names (left names) ended
  pub first : (names : FileNames) → asked ≡ Some (Route names) → HaveBegunFirst names tried.0 tried.1 → EndsBeforeCommands call names ended
  pub handed : (names : FileNames) → asked ≡ Some (Route names) → IsInPieces call names ended
  pub order : IsInOrder call.files asked tried.0 tried.1 ⊎ ((ended ≡ Memory) × Unread)
  pub reads_later : call.reads.0 ≤ call.reads.1
  pub writes_later : call.writes.0 ≤ call.writes.1
