-- What is kept of the blocks of a run in which memory runs out for no command, and what is such a run before a command?
use Rattle.std.specs.Prelude.{ℕ, ◌≡◌, ◌-◌, List, [], ◌∷◌, ◌++◌, take, slice_get, Option}
use Rattle.taxi_base.specs.Airport.{Airport}
use Rattle.taxi_base.specs.State.{State}
use Rattle.replies.specs.declared.block.Block.{Block}
use Rattle.replies.specs.Replies.{IsAnswered}
pub use Rattle.transcripts.specs.Supplied.{FoundMemory, IsSuppliedRun}

-- Such a run over the commands before the one of this number, counted from 1. The next is that command's line, which is not
-- answered, if there are so many.
pub record IsRunBefore (airport : Airport) (commands : List (List ℕ)) (number : ℕ) (next : Option (List ℕ)) (after : State) : Type 0 where
  pub run : IsSuppliedRun airport (take (number - 1) commands) after
  pub next_is : next ≡ slice_get commands (number - 1)

-- A run over commands in which memory ran out for none, where something is kept of its blocks: that it is kept is a fact of all of them.
pub record IsKeptRun (airport : Airport) (commands : List (List ℕ)) (after : State) (Kept : List Block → Type 0) : Type 0 where
  pub run : IsSuppliedRun airport commands after
  pub kept : Kept run.blocks

-- one line is answered by a block for which memory did not run out; where something was kept of the blocks before, it is kept with this one
pub record IsKept (airport : Airport) (before : State) (line : List ℕ) (after : State) (Kept Keeps : List Block → Type 0) : Type 0 where
  pub block : Block
  pub answered : IsAnswered airport before line block after
  pub found_memory : FoundMemory block
  pub kept : (blocks : List Block) → Kept blocks → Keeps (blocks ++ block ∷ [])
