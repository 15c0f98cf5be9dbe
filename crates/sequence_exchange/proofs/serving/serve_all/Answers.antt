use Rattle.std.proofs.Common.{◌≡◌, ◌∙◌, ◌+◌, suc, take, arith}
use Rattle.sequence_exchange.proofs.NewLaws.{AreNew-take}
use Rattle.sequence_exchange.proofs.ServingLaws.{next-absent, next-few, serving-next}
use Rattle.sequence_exchange.proofs.serving.serve_all.Goals as goal

pub serve-requires-clause-absent : goal.serve-requires-clause-absent
serve-requires-clause-absent c =
    next-absent c.args.airport.now c.loop-wish.wish-index c.args.ledger.now.state c.args.wishes.now c.loop-wish-test.true c.requires.new c.requires.few c.loop-wish.entries.items c.loop-wish.ledger.state
    c.loop-wish.invariant.0.served c.wish-item.result c.wish-item.is

pub serve-requires-clause-few : goal.serve-requires-clause-few
serve-requires-clause-few c =
    next-few c.args.airport.now c.loop-wish.wish-index c.args.ledger.now.state c.args.wishes.now c.loop-wish-test.true c.requires.new c.requires.few c.loop-wish.entries.items c.loop-wish.ledger.state
    c.loop-wish.invariant.0.served

pub returns-in-Err-clause-err : goal.returns-in-Err-clause-err
returns-in-Err-clause-err c =
    c.take_out.ensures.state c.args.ledger.now.state (take c.loop-wish.wish-index c.args.wishes.now) (AreNew-take c.args.ledger.now.state c.loop-wish.wish-index c.args.wishes.now c.requires.new)
    (rw (c.as_slice.ensures.value, c.in-Err.ensures.err) c.loop-wish.invariant.0.served)

pub loop-wish-preserved : goal.loop-wish-preserved
loop-wish-preserved c =
    let next : c.loop-wish.wish-index + 1 ≡ suc c.loop-wish.wish-index = omega arith in (
      serving-next c.args.airport.now c.args.wishes.now c.loop-wish.entries.items c.push_reserved.new.self.items c.loop-wish.wish-index (c.loop-wish.wish-index + 1) c.args.ledger.now.state c.loop-wish.ledger
          c.serve.new.ledger c.wish-item.result c.in-Ok.entry next c.loop-wish-test.true c.wish-item.is c.loop-wish.invariant.0 c.in-Ok.ensures.ok c.push_reserved.ensures.items c.in-Ok.ensures.unlifted
          c.in-Ok.ensures.fits,
      omega (arith, c.push_reserved.ensures.len, c.loop-wish.invariant.1),
      c.push_reserved.ensures.capacity ∙ c.loop-wish.invariant.2,
    )
