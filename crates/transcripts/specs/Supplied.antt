-- What is a run in which memory runs out for no command?
use Rattle.std.specs.Prelude.{ℕ, ◌≡◌, List, All}
use Rattle.taxi_base.specs.declared.answers.Refusal.TheVariants as refusal
use Rattle.taxi_base.specs.Airport.{Airport}
use Rattle.taxi_base.specs.State.{State, no_holder}
use Rattle.replies.specs.declared.block.Block.{Block}
use Rattle.replies.specs.declared.block.Block.TheVariants.{Refused}
use Rattle.transcripts.specs.Runs.{IsRun}

-- memory did not run out for this block
abbrev pub FoundMemory : Block → Type 0
FoundMemory block = block ≡ Refused refusal.Memory → ⊥

-- a run over commands from no holder in force, in which memory ran out for none, and what is in force after it
pub record IsSuppliedRun (airport : Airport) (commands : List (List ℕ)) (after : State) : Type 0 where
  pub blocks : List Block
  pub run : IsRun airport no_holder commands blocks after
  pub found_memory : All FoundMemory blocks
