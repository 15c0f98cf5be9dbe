use Rattle.std.proofs.Common.{◌≡◌, ◌∙◌, ◌+◌, ◌<◌, suc, take, length, sym, subst, arith}
use Rattle.taxi_base.specs.State.{State}
use Rattle.replies.specs.Batches.{IsServed}
use Rattle.replies.proofs.Outcomes.{map_err}
use Rattle.sequence_exchange.proofs.ServedLaws.{IsServed-length}
use Rattle.sequence_exchange.proofs.NewLaws.{AreNew-take}
use Rattle.sequence_exchange.proofs.ServingLaws.{next-absent, next-few, not-err, putting-next}
use Rattle.sequence_exchange.proofs.serving.put_back.Goals as goal

pub bounds-entries-place : goal.bounds-entries-place
bounds-entries-place c =
    omega (arith, c.loop-place-test.true, IsServed-length c.args.airport.now c.args.ledger.now.state c.args.wishes.now c.args.entries.now c.requires.served.0 c.requires.served.1)

pub put_one_back-put-requires-clause-absent : goal.put_one_back-put-requires-clause-absent
put_one_back-put-requires-clause-absent c =
    next-absent c.args.airport.now c.loop-place.place c.args.ledger.now.state c.args.wishes.now c.loop-place-test.true c.requires.new c.requires.few (take c.loop-place.place c.args.entries.now) c.loop-place.ledger.state
    c.loop-place.invariant.served c.index-wishes-place.result c.index-wishes-place.is

pub put_one_back-put-requires-clause-few : goal.put_one_back-put-requires-clause-few
put_one_back-put-requires-clause-few c =
    next-few c.args.airport.now c.loop-place.place c.args.ledger.now.state c.args.wishes.now c.loop-place-test.true c.requires.new c.requires.few (take c.loop-place.place c.args.entries.now) c.loop-place.ledger.state
    c.loop-place.invariant.served

pub returns-then-is_err-clause-err : goal.returns-then-is_err-clause-err
returns-then-is_err-clause-err c =
    map_err c.put_one_back-put.result (λ (same : c.put_one_back-put.new.ledger.state ≡ c.loop-place.ledger.state).
    c.take_out.ensures.state c.args.ledger.now.state (take c.loop-place.place c.args.wishes.now) (AreNew-take c.args.ledger.now.state c.loop-place.place c.args.wishes.now c.requires.new)
    (subst (λ (s : State). IsServed c.args.airport.now c.args.ledger.now.state (take c.loop-place.place c.args.wishes.now) (take c.loop-place.place c.args.entries.now) s) (sym same) c.loop-place.invariant.served))
    c.put_one_back-put.ensures.err

pub loop-place-preserved : goal.loop-place-preserved
loop-place-preserved c =
    let next : c.loop-place.place + 1 ≡ suc c.loop-place.place = omega arith in
    let there : c.loop-place.place < length c.args.entries.now =
    omega (arith, c.loop-place-test.true, IsServed-length c.args.airport.now c.args.ledger.now.state c.args.wishes.now c.args.entries.now c.requires.served.0 c.requires.served.1) in
    putting-next c.args.airport.now c.args.wishes.now c.args.entries.now c.loop-place.place c.args.ledger.now.state c.loop-place.ledger c.loop-place.invariant c.index-wishes-place.result c.index-entries-place.result
    c.loop-place-test.true there c.index-wishes-place.is c.index-entries-place.is (c.loop-place.place + 1) c.put_one_back-put.new.ledger c.requires.served.0 next c.requires.served.1
    (λ mid served. not-err c.put_one_back-put.result (sym c.is_err.ensures.value ∙ c.if-is_err.false) (c.put_one_back-put.ensures.ok mid served)) c.put_one_back-put.ensures.unlifted c.put_one_back-put.ensures.fits
