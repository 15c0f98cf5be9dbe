-- What a part of the engine has done for flights that are routed together. No public clause cites these.
use Rattle.std.specs.Prelude.{ℕ, ◌⊎◌, List}
use Rattle.taxi_base.specs.declared.answers.Refusal.TheVariants as refusal
use Rattle.taxi_base.specs.State.{State}
use Rattle.replies.specs.declared.entries.Entry.{Entry}
use Rattle.replies.specs.declared.wish.Wish.{Wish}
use Rattle.replies.specs.declared.block.Block.TheVariants.{Batch}
use Rattle.replies.specs.Batches.{IsSequenced}
use Rattle.replies.specs.Replies.{refused}
use Rattle.taxi_engine.specs.Engine.{EngineState}
use Rattle.taxi_engine.specs.Done.{IsDone}

-- the order at which the exchange of neighbours ends is told, and its flights are in force
pub record IsTold (wishes : List Wish) (old new : EngineState) : Type 0 where
  pub total : ℕ
  pub entries : List (List ℕ × Entry)
  pub after : State
  pub sequenced : IsSequenced old.airport old.state wishes total entries after
  pub done : IsDone (record { block = Batch total entries; after = after }) old new

-- or memory ran out, which changed nothing else
abbrev pub IsSequencedTold : List Wish → EngineState → EngineState → Type 0
IsSequencedTold wishes old new = IsTold wishes old new ⊎ IsDone (refused old.state refusal.Memory) old new
