-- What contracts see of an engine.
use Rattle.std.specs.Prelude.{ℕ, ◌≡◌, ◌⊎◌, List, Some, None, ⊤}
use Rattle.taxi_base.specs.declared.answers.Refusal.TheVariants as refusal
use Rattle.taxi_base.specs.Airport.{Airport}
use Rattle.taxi_base.specs.State.{State}
use Rattle.taxi_text.specs.declared.command.Command.{Command}
use Rattle.taxi_text.specs.declared.command.Command.TheVariants as command
use Rattle.taxi_text.specs.Commands.{command_of}
use Rattle.replies.specs.declared.block.Block.{Block}
use Rattle.replies.specs.declared.block.Block.TheVariants.{Refused}
use Rattle.replies.specs.Texts.{block_text}
use Rattle.replies.specs.Printable.{IsPrintable}
use Rattle.replies.specs.Refusals.{first_refusal}
use Rattle.replies.specs.Replies.{IsDue, IsAnswered}
use Rattle.replies.specs.Passes.{IsPassed}

-- the airport, the flights in force and the work parties, and the text of the last reply
pub record EngineState : Type 0 where
  pub airport : Airport
  pub state : State
  pub reply : List ℕ

-- A command may want for memory: one that ends in a list, and one of any other form but `cancel` and `workdone` that is refused
-- nothing.
abbrev pub MayWantMemory : Airport → State → Command → Type 0
MayWantMemory airport state (command.File filed) = ⊤
MayWantMemory airport state (command.ArrivalAny asked) = ⊤
MayWantMemory airport state (command.DepartureAny asked) = ⊤
MayWantMemory airport state (command.Batch requests) = ⊤
MayWantMemory airport state (command.Cancel flight) = ⊥
MayWantMemory airport state (command.WorkDone name) = ⊥
MayWantMemory airport state other = first_refusal airport state other ≡ None

-- memory ran out for a line, which it can only for such a command
pub record WantsMemory (airport : Airport) (state : State) (line : List ℕ) (block : Block) : Type 0 where
  pub command : Command
  pub read : command_of line ≡ Some command
  pub may_want : MayWantMemory airport state command
  pub block_is : block ≡ Refused refusal.Memory

-- The line is answered by a block, as is due, or for want of memory. The block passes every rule of a check, and has a text in
-- the grammar, which is the reply. The airport stays.
pub record Answers (old : EngineState) (line : List ℕ) (new : EngineState) : Type 0 where
  pub block : Block
  pub answered : IsAnswered old.airport old.state line block new.state
  pub due_or_memory : IsDue old.airport old.state line block new.state ⊎ WantsMemory old.airport old.state line block
  pub passed : IsPassed old.airport old.state line block new.state
  pub printable : IsPrintable old.airport block
  pub reply : new.reply ≡ block_text old.airport block
  pub airport : new.airport ≡ old.airport
