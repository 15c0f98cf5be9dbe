-- A block that passes for a late flight.
use Rattle.std.specs.Prelude.{ℕ, ◌≡◌, List, Some, None}
use Rattle.taxi_base.specs.declared.answers.Refusal.TheVariants as refusal
use Rattle.taxi_base.specs.Airport.{Airport}
use Rattle.taxi_base.specs.State.{State}
use Rattle.taxi_text.specs.declared.command.Command.TheVariants as command
use Rattle.taxi_text.specs.Commands.{command_of}
use Rattle.replies.specs.declared.block.Block.{Block}
use Rattle.replies.specs.declared.block.Block.TheVariants.{Refused}
use Rattle.replies.specs.Refusals.{first_refusal}
use Rattle.replies.specs.Passes.{IsPassed}

-- The line says that a flight is late, and is refused nothing. Its block is not `refused memory`, and passes.
pub record IsRepairPassed (airport : Airport) (state : State) (line name : List ℕ) (time until : ℕ) (block : Block) (after : State) : Type 0 where
  pub read : command_of line ≡ Some (command.Late name time until)
  pub not_refused : first_refusal airport state (command.Late name time until) ≡ None
  pub no_memory : block ≡ Refused refusal.Memory → ⊥
  pub passed : IsPassed airport state line block after
