-- Which transcripts pass a check, and where does one fail first?
use Rattle.std.specs.Prelude.{◌≡◌, ◌+◌, ℕ, List, [], ◌∷◌, ◌++◌, length, All}
use Rattle.taxi_base.specs.Airport.{Airport}
use Rattle.taxi_base.specs.State.{State, no_holder, IsSound, IsClashFree}
use Rattle.replies.specs.declared.block.Block.{Block}
use Rattle.replies.specs.Printable.{IsPrintable}
use Rattle.replies.specs.Passes.{IsPassed, IsFirstBroken, TellsBest}
use Rattle.block_reader.specs.Read.{BeginsWith}
use Rattle.transcript_check.specs.declared.failure.Failure.{Failure}
use Rattle.transcript_check.specs.declared.failure.Failure.TheVariants.{Form, Rule}
use Rattle.transcripts.specs.Runs.{InTurn, blocks_text, done_line, transcript}

-- each line in turn has a block that passes every rule
abbrev pub IsPassedRun : Airport → State → List (List ℕ) → List Block → State → Type 0
IsPassedRun = InTurn IsPassed

-- A transcript of the commands: the texts of one block for each, which pass in turn from no holder on, and the last line.
pub record IsRight (airport : Airport) (commands : List (List ℕ)) (text : List ℕ) (blocks : List Block) : Type 0 where
  pub after : State
  pub passed : IsPassedRun airport no_holder commands blocks after
  pub printable : All (IsPrintable airport) blocks
  pub whole : text ≡ transcript airport blocks

-- why the block that is due for a line fails in a state: none can be read, or one that breaks a rule first
abbrev pub BlockFails : Airport → State → List ℕ → List ℕ → Failure → Type 0
BlockFails airport state line rest Form = (block : Block) → BeginsWith airport rest block → ⊥
BlockFails airport state line rest (Rule rule) = (block : Block) × BeginsWith airport rest block × IsFirstBroken airport state line block rule

-- the same after the blocks of all commands, of which there are so many: what stands there is not the last line
abbrev pub EndFails : ℕ → List ℕ → Failure → Type 0
EndFails count rest Form = rest ≡ done_line count → ⊥
EndFails count rest (Rule rule) = ⊥

-- why the rest of a transcript fails at its front, in a state, for the commands that are left
abbrev pub Fails : Airport → State → List (List ℕ) → ℕ → List ℕ → Failure → Type 0
Fails airport state [] count rest why = EndFails count rest why
Fails airport state (line ∷ lines) count rest why = BlockFails airport state line rest why

-- The first block that fails, by its number from 1: the blocks before it pass in turn, and what stands behind them fails.
-- The number after the last block's is that of the last line.
pub record IsWrongAt (airport : Airport) (commands : List (List ℕ)) (text : List ℕ) (number : ℕ) (why : Failure) : Type 0 where
  pub before : List (List ℕ)
  pub left : List (List ℕ)
  pub split : before ++ left ≡ commands
  pub blocks : List Block
  pub state : State
  pub passed : IsPassedRun airport no_holder before blocks state
  pub printable : All (IsPrintable airport) blocks
  pub rest : List ℕ
  pub front : text ≡ blocks_text airport blocks ++ rest
  pub fails : Fails airport state left (length blocks) rest why
  pub counted : number ≡ length blocks + 1

-- what a block that passes promises: what it says of walks is so, and the flights in force are sound and clash-free afterwards
pub record IsTrusted (airport : Airport) (state : State) (line : List ℕ) (block : Block) (after : State) : Type 0 where
  pub passed : IsPassed airport state line block after
  pub best : TellsBest airport state line block
  pub sound : IsSound airport after
  pub clash_free : IsClashFree airport after
