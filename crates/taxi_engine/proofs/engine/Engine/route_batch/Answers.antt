use Rattle.std.proofs.Common.{◌≡◌, ◌+◌, ◌≤◌, length, List, Some, None, subst}
use Rattle.taxi_base.specs.State.{holder_count}
use Rattle.taxi_text.specs.declared.command.Command.TheVariants as command
use Rattle.replies.specs.declared.wish.Wish.{Wish}
use Rattle.replies.specs.Refusals.{first_refusal}
use Rattle.replies.specs.Batches.{wishes_of}
use Rattle.command_refusals.specs.Accepted.{IsRefused}
use Rattle.sequence_exchange.specs.Serving.{AreNew}
use Rattle.taxi_engine.specs.Engine.{EngineState}
use Rattle.taxi_engine.specs.Batched.{IsSequencedTold}
use Rattle.taxi_engine.proofs.BatchLaws.{wishes-short, wishes-named, wishes-few, wishes-new, wishes-fit, batch-done}
use Rattle.taxi_engine.proofs.ChosenDue.{refused-so}
use Rattle.taxi_engine.proofs.engine.Engine.route_batch.Goals as goal

pub tell_sequenced-requires-clause-names : goal.tell_sequenced-requires-clause-names
tell_sequenced-requires-clause-names c = rw c.as_slice.ensures (wishes-named c.self.inside.airport c.self.inside.ledger.state c.args.requests.now c.in-Ok.wishes c.in-Ok.ensures.named c.requires.each)

pub tell_sequenced-requires-clause-asked : goal.tell_sequenced-requires-clause-asked
tell_sequenced-requires-clause-asked c = rw c.as_slice.ensures (wishes-short c.self.inside.airport c.self.inside.ledger.state c.args.requests.now c.in-Ok.wishes c.in-Ok.ensures.named c.requires.each)

pub tell_sequenced-requires-clause-new : goal.tell_sequenced-requires-clause-new
tell_sequenced-requires-clause-new c =
    rw c.as_slice.ensures (subst (λ (s : EngineState). AreNew s.state c.in-Ok.wishes) c.self.view_is
    (wishes-new c.self.inside.airport c.self.inside.ledger.state c.args.requests.now c.in-Ok.wishes c.in-Ok.ensures.named c.in-Ok.ensures.ok))

pub tell_sequenced-requires-clause-few : goal.tell_sequenced-requires-clause-few
tell_sequenced-requires-clause-few c =
    rw c.as_slice.ensures (subst (λ (s : EngineState). holder_count s.state + length c.in-Ok.wishes ≤ 4096) c.self.view_is
    (wishes-fit c.self.inside.airport c.self.inside.ledger.state c.args.requests.now c.in-Ok.wishes c.in-Ok.ensures.named c.in-Ok.ensures.ok))

pub tell_sequenced-requires-clause-count : goal.tell_sequenced-requires-clause-count
tell_sequenced-requires-clause-count c = rw c.as_slice.ensures (wishes-few c.self.inside.airport c.self.inside.ledger.state c.args.requests.now c.in-Ok.wishes c.in-Ok.ensures.named c.requires.count)

pub returns-in-Ok : goal.returns-in-Ok
returns-in-Ok c =
    let asks = command.Batch c.args.requests.now in
    let known : wishes_of c.args.self.now.airport c.args.requests.now ≡ Some c.in-Ok.wishes =
    subst (λ (s : EngineState). wishes_of s.airport c.args.requests.now ≡ Some c.in-Ok.wishes) c.self.view_is c.in-Ok.ensures.named in
    let none : first_refusal c.args.self.now.airport c.args.self.now.state asks ≡ None =
    subst (λ (s : EngineState). first_refusal s.airport s.state asks ≡ None) c.self.view_is c.in-Ok.ensures.ok in
    batch-done c.args.self.now c.tell_sequenced.new.self c.args.requests.now c.in-Ok.wishes known none
    (subst (λ (ws : List Wish). IsSequencedTold ws c.args.self.now c.tell_sequenced.new.self) c.as_slice.ensures c.tell_sequenced.ensures)

pub returns-in-Err : goal.returns-in-Err
returns-in-Err c =
    let asks = command.Batch c.args.requests.now in
    let why : IsRefused c.args.self.now.airport c.args.self.now.state asks c.in-Err.why =
    subst (λ (s : EngineState). IsRefused s.airport s.state asks c.in-Err.why) c.self.view_is c.in-Err.ensures.err in
    refused-so c.args.self.now c.refuse.new.self asks c.in-Err.why (λ _. tt) why c.refuse.ensures
