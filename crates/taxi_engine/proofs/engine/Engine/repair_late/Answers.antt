use Rattle.std.proofs.Common.{◌≡◌, Some, None, subst, inl}
use Rattle.taxi_text.specs.declared.command.Command.TheVariants as command
use Rattle.replies.specs.Refusals.{first_refusal}
use Rattle.replies.specs.Replies.{refused}
use Rattle.taxi_engine.specs.Engine.{EngineState}
use Rattle.taxi_engine.proofs.DueLaws.{refusal-due}
use Rattle.taxi_engine.proofs.LateDone.{late-done}
use Rattle.taxi_engine.proofs.engine.Engine.repair_late.Goals as goal

pub returns-in-Ok : goal.returns-in-Ok
returns-in-Ok c =
    let asks = command.Late c.args.flight.now c.args.time c.args.until in
    let none : first_refusal c.args.self.now.airport c.args.self.now.state asks ≡ None =
    subst (λ (s : EngineState). first_refusal s.airport s.state asks ≡ None) c.self.view_is c.in-Ok.ensures.ok in
    late-done c.args.self.now c.tell_repaired.new.self c.args.flight.now c.args.time c.args.until none c.tell_repaired.ensures

pub returns-in-Err : goal.returns-in-Err
returns-in-Err c =
    let asks = command.Late c.args.flight.now c.args.time c.args.until in
    let why : first_refusal c.args.self.now.airport c.args.self.now.state asks ≡ Some c.in-Err.why =
    subst (λ (s : EngineState). first_refusal s.airport s.state asks ≡ Some c.in-Err.why) c.self.view_is c.in-Err.ensures.err in
    inl (record {
      reply = refused c.args.self.now.state c.in-Err.why;
      due = refusal-due c.args.self.now.airport c.args.self.now.state asks c.in-Err.why why;
      done = c.refuse.ensures;
    })
