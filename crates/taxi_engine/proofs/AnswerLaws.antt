-- What a line is answered by, from what was done for it.
use Rattle.std.proofs.Common.{◌≡◌, ◌⊎◌, ℕ, List, Option, Some, None, inl, inr, ap, subst, sym}
use Rattle.std.specs.Prelude.{IsSomeAnd}
use Rattle.taxi_base.specs.declared.answers.Refusal.TheVariants as refusal
use Rattle.taxi_base.specs.Airport.{Airport, IsWellFormed}
use Rattle.taxi_base.specs.State.{State, IsSound}
use Rattle.taxi_text.specs.declared.command.Command.{Command}
use Rattle.taxi_text.specs.declared.command.Command.TheVariants as command
use Rattle.taxi_text.specs.Commands.{command_of, EndsInList}
use Rattle.replies.specs.declared.block.Block.TheVariants.{Refused}
use Rattle.replies.specs.CarriedOut.{Reply}
use Rattle.replies.specs.Replies.{refused, NeedsNoMemory, IsDue, IsReply, as_due, no_memory, HaveNames, IsAnswered}
use Rattle.replies.specs.Passes.{IsPassed}
use Rattle.replies.proofs.ReplyLaws.{IsAnswered-sound, due-command, due-bad_line}
use Rattle.replies.proofs.PassLaws.{reply-passes}
use Rattle.taxi_engine.specs.Engine.{EngineState, MayWantMemory, WantsMemory, Answers}
use Rattle.taxi_engine.specs.Done.{IsDone, IsDoneOrMemory}

-- a command that may want for memory is none of those that need none
wants-needs : (airport : Airport) (state : State) (c : Command) → MayWantMemory airport state c → NeedsNoMemory (Some c) → ⊥
wants-needs airport state (command.File filed) may needs = needs
wants-needs airport state (command.Arrival asked) may needs = needs
wants-needs airport state (command.Departure asked) may needs = needs
wants-needs airport state (command.Cancel flight) may needs = may
wants-needs airport state (command.Reroute flight time) may needs = needs
wants-needs airport state (command.Divert flight time node) may needs = needs
wants-needs airport state (command.Windows segment) may needs = needs
wants-needs airport state (command.Occupancy segment) may needs = needs
wants-needs airport state command.Timetable may needs = needs
wants-needs airport state (command.Work shut) may needs = needs
wants-needs airport state (command.WorkDone name) may needs = may
wants-needs airport state (command.ArrivalAny asked) may needs = needs
wants-needs airport state (command.DepartureAny asked) may needs = needs
wants-needs airport state (command.Batch requests) may needs = needs
wants-needs airport state (command.Late flight time until) may needs = needs

module _ (old new : EngineState) (line : List ℕ) (well : IsWellFormed old.airport) (sound : IsSound old.airport old.state) (names : HaveNames old.state) where
  -- by what a reply says
  reply-answers : (reply : Reply) → IsReply old.airport old.state line reply.block reply.after
      → IsDue old.airport old.state line reply.block reply.after ⊎ WantsMemory old.airport old.state line reply.block → IsDone reply old new → Answers old line new
  reply-answers reply is_reply given done =
      let answered = IsAnswered-sound old.airport old.state line reply.block reply.after sound is_reply in
      record {
        block = reply.block;
        answered = subst (λ (s : EngineState). IsAnswered old.airport old.state line reply.block s.state) (sym done) answered;
        due_or_memory = subst (λ (s : EngineState). IsDue old.airport old.state line reply.block s.state ⊎ WantsMemory old.airport old.state line reply.block) (sym done) given;
        passed = subst (λ (s : EngineState). IsPassed old.airport old.state line reply.block s.state) (sym done)
            (reply-passes old.airport old.state line reply.block reply.after well sound is_reply);
        printable = answered.printable well names;
        reply = ap (λ (s : EngineState). s.reply) done;
        airport = ap (λ (s : EngineState). s.airport) done;
      }

  due-answers : (reply : Reply) → IsDue old.airport old.state line reply.block reply.after → IsDone reply old new → Answers old line new
  due-answers reply due done = reply-answers reply (as_due reply.block reply.after due) (inl due) done

  -- where the line is no command
  pub bad_line-answers : command_of line ≡ None → IsDone (refused old.state refusal.BadLine) old new → Answers old line new
  bad_line-answers none done = due-answers (refused old.state refusal.BadLine) (due-bad_line old.airport old.state line none) done

  -- by want of memory
  memory-answers : (c : Command) → command_of line ≡ Some c → MayWantMemory old.airport old.state c → IsDone (refused old.state refusal.Memory) old new → Answers old line new
  memory-answers c e may done =
      reply-answers (refused old.state refusal.Memory) (no_memory (λ needs. wants-needs old.airport old.state c may (subst NeedsNoMemory e needs)))
      (inr (record { command = c; read = e; may_want = may; block_is = λ i. Refused refusal.Memory })) done

  -- by what was done for a command
  pub command-answers : (c : Command) → command_of line ≡ Some c → IsDoneOrMemory c old new → Answers old line new
  command-answers c e done =
      elim done [
        | inl due ↦ due-answers due.reply (due-command old.airport old.state line c due.reply.block due.reply.after e due.due) due.done
        | inr memory ↦ memory-answers c e memory.0 memory.1
      ]

  -- where memory ran out while the line was read, which files a route
  pub file-answers : IsSomeAnd (command_of line) EndsInList → IsDone (refused old.state refusal.Memory) old new → Answers old line new
  file-answers files done = go (command_of line) (λ i. command_of line) files where
    filing : (c : Command) → EndsInList c → MayWantMemory old.airport old.state c
    filing (command.File filed) file = tt
    filing (command.Arrival asked) file = absurd file
    filing (command.Departure asked) file = absurd file
    filing (command.Cancel flight) file = absurd file
    filing (command.Reroute flight time) file = absurd file
    filing (command.Divert flight time node) file = absurd file
    filing (command.Windows segment) file = absurd file
    filing (command.Occupancy segment) file = absurd file
    filing command.Timetable file = absurd file
    filing (command.Work shut) file = absurd file
    filing (command.WorkDone name) file = absurd file
    filing (command.ArrivalAny asked) file = tt
    filing (command.DepartureAny asked) file = tt
    filing (command.Batch requests) file = tt
    filing (command.Late flight time until) file = absurd file

    go : (o : Option Command) → command_of line ≡ o → IsSomeAnd o EndsInList → Answers old line new
    go None e files = absurd files
    go (Some c) e files = memory-answers c e (filing c files) done
