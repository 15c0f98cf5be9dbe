-- What a part of the engine has done for a line. No public clause cites these.
use Rattle.std.specs.Prelude.{◌≡◌, ◌⊎◌}
use Rattle.taxi_base.specs.declared.answers.Refusal.TheVariants as refusal
use Rattle.taxi_text.specs.declared.command.Command.{Command}
use Rattle.replies.specs.Texts.{block_text}
use Rattle.replies.specs.CarriedOut.{Reply}
use Rattle.replies.specs.Replies.{refused, IsDueTo}
use Rattle.taxi_engine.specs.Engine.{EngineState, MayWantMemory}

-- the reply is written, and the state is that afterwards
abbrev pub IsDone : Reply → EngineState → EngineState → Type 0
IsDone reply old new = new ≡ record { airport = old.airport; state = reply.after; reply = block_text old.airport reply.block }

-- a reply that is due to the command is written, and the state is that afterwards
pub record IsDoneAsDue (command : Command) (old new : EngineState) : Type 0 where
  pub reply : Reply
  pub due : IsDueTo old.airport old.state command reply.block reply.after
  pub done : IsDone reply old new

-- or memory ran out, which the reply says, and nothing else changed
abbrev pub IsDoneOrMemory : Command → EngineState → EngineState → Type 0
IsDoneOrMemory command old new =
    IsDoneAsDue command old new ⊎ (MayWantMemory old.airport old.state command × IsDone (refused old.state refusal.Memory) old new)
