use Rattle.std.proofs.Common.{subst}
use Rattle.taxi_text.specs.declared.command.Command.TheVariants as command
use Rattle.replies.proofs.ChoiceNames.{nodes_named-are}
use Rattle.replies.proofs.RefusalLaws.{departure_any-has_room}
use Rattle.taxi_engine.specs.Engine.{EngineState}
use Rattle.command_refusals.specs.Accepted.{IsRefused}
use Rattle.taxi_engine.specs.Done.{IsDoneOrMemory}
use Rattle.taxi_engine.proofs.ChosenDue.{departure_any-done, refused-so}
use Rattle.taxi_engine.proofs.engine.Engine.route_departure_any.Goals as goal

pub find_departure_any-chosen-requires-clause-nodes : goal.find_departure_any-chosen-requires-clause-nodes
find_departure_any-chosen-requires-clause-nodes c = (nodes_named-are c.self.inside.airport c.args.asked.now.nodes c.in-Ok.trip.nodes c.in-Ok.ensures.named.nodes_known).exist

pub tell_chosen-requires-clause-new : goal.tell_chosen-requires-clause-new
tell_chosen-requires-clause-new c =
    let room = departure_any-has_room c.self.inside.airport c.self.inside.ledger.state c.args.asked.now c.in-Ok.ensures.ok in
    record { absent = room.absent; few = room.room }

pub returns-in-Ok : goal.returns-in-Ok
returns-in-Ok c =
    let old : EngineState = record { airport = c.self.inside.airport; state = c.self.inside.ledger.state; reply = c.self.inside.reply } in
    subst (λ (s : EngineState). IsDoneOrMemory (command.DepartureAny c.args.asked.now) s c.tell_chosen.new.self) c.self.view_is
    (departure_any-done old c.tell_chosen.new.self c.args.asked.now c.in-Ok.trip c.in-Ok.ensures.named c.find_departure_any-chosen.result c.in-Ok.ensures.ok c.find_departure_any-chosen.ensures c.tell_chosen.ensures)

pub returns-in-Err : goal.returns-in-Err
returns-in-Err c =
    let asks = command.DepartureAny c.args.asked.now in
    let why : IsRefused c.args.self.now.airport c.args.self.now.state asks c.in-Err.why =
    subst (λ (s : EngineState). IsRefused s.airport s.state asks c.in-Err.why) c.self.view_is c.in-Err.ensures.err in
    refused-so c.args.self.now c.refuse.new.self asks c.in-Err.why (λ _. tt) why c.refuse.ensures
