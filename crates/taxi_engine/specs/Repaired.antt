-- What a part of the engine has done for a flight that is late. No public clause cites these.
use Rattle.std.specs.Prelude.{ℕ, ◌⊎◌, List}
use Rattle.taxi_base.specs.declared.answers.Refusal.TheVariants as refusal
use Rattle.taxi_base.specs.State.{State}
use Rattle.replies.specs.declared.block.Block.{Block}
use Rattle.replies.specs.Repairs.{IsRepairTold}
use Rattle.replies.specs.Replies.{refused}
use Rattle.taxi_engine.specs.Engine.{EngineState}
use Rattle.taxi_engine.specs.Done.{IsDone}

-- the flight and those in its way are told of, and who is in force then is so
pub record IsToldLate (name : List ℕ) (time until : ℕ) (old new : EngineState) : Type 0 where
  pub block : Block
  pub after : State
  pub told : IsRepairTold old.airport old.state name time until block after
  pub done : IsDone (record { block = block; after = after }) old new

-- or memory ran out, which changed nothing else
abbrev pub IsRepairedTold : List ℕ → ℕ → ℕ → EngineState → EngineState → Type 0
IsRepairedTold name time until old new = IsToldLate name time until old new ⊎ IsDone (refused old.state refusal.Memory) old new
