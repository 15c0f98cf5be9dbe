use Rattle.std.proofs.Common.{◌≡◌, Some, subst, inl, arith}
use Rattle.std.specs.Prelude.{IfOk}
use Rattle.taxi_base.specs.declared.answers.Request.{Request}
use Rattle.taxi_base.specs.Faults.{conditions_in}
use Rattle.taxi_text.specs.declared.command.Command.TheVariants as command
use Rattle.replies.specs.Asked.{AnswersRequest}
use Rattle.replies.specs.Refusals.{first_refusal}
use Rattle.replies.specs.Replies.{refused}
use Rattle.replies.proofs.RefusalLaws.{arrival-has_room}
use Rattle.taxi_engine.specs.Engine.{EngineState}
use Rattle.taxi_engine.specs.Done.{IsDoneOrMemory}
use Rattle.taxi_engine.specs.Routed.{IsFoundTold}
use Rattle.taxi_engine.proofs.DueLaws.{refusal-due}
use Rattle.taxi_engine.proofs.RoutedDue.{arrival-done}
use Rattle.taxi_engine.proofs.engine.Engine.route_arrival.Goals as goal

pub find_route-found-requires-clause-asked : goal.find_route-found-requires-clause-asked
find_route-found-requires-clause-asked c = rw c.arrival.ensures (omega (arith, c.in-Ok.ensures.named.time, c.requires.time), omega (arith, c.in-Ok.ensures.named.slack, c.requires.slack))

pub tell_found-requires-clause-new : goal.tell_found-requires-clause-new
tell_found-requires-clause-new c =
    let room = arrival-has_room c.self.inside.airport c.self.inside.ledger.state c.args.asked.now c.in-Ok.ensures.ok in
    record { absent = room.absent; few = room.room }

pub returns-in-Ok : goal.returns-in-Ok
returns-in-Ok c =
    let old : EngineState = record { airport = c.self.inside.airport; state = c.self.inside.ledger.state; reply = c.self.inside.reply } in
    subst (λ (s : EngineState). IsDoneOrMemory (command.Arrival c.args.asked.now) s c.tell_found.new.self) c.self.view_is
    (arrival-done old c.tell_found.new.self c.args.asked.now c.in-Ok.trip c.in-Ok.ensures.named c.find_route-found.result c.in-Ok.ensures.ok
    (subst (λ (r : Request). IfOk c.find_route-found.result (AnswersRequest (conditions_in old.airport c.in-Ok.trip.class old.state) r)) c.arrival.ensures c.find_route-found.ensures)
    (subst (λ r. IsFoundTold c.args.asked.now.flight c.in-Ok.trip.class r c.find_route-found.result old c.tell_found.new.self) c.arrival.ensures c.tell_found.ensures))

pub returns-in-Err : goal.returns-in-Err
returns-in-Err c =
    let asks = command.Arrival c.args.asked.now in
    let first : first_refusal c.args.self.now.airport c.args.self.now.state asks ≡ Some c.in-Err.why =
    subst (λ (s : EngineState). first_refusal s.airport s.state asks ≡ Some c.in-Err.why) c.self.view_is c.in-Err.ensures.err in
    inl (record {
      reply = refused c.args.self.now.state c.in-Err.why;
      due = refusal-due c.args.self.now.airport c.args.self.now.state asks c.in-Err.why first;
      done = c.refuse.ensures;
    })
