use Rattle.std.proofs.Common.{◌+◌, refl, arith}
use Rattle.sequence_exchange.proofs.SequenceLaws.{sequencing-first, sequencing-exchanged, sequencing-kept, sequencing-last}
use Rattle.sequence_exchange.proofs.sequencing.sequence.Goals as goal

pub loop-place-init : goal.loop-place-init
loop-place-init c =
    sequencing-first c.args.airport.now c.args.ledger.now.state c.args.wishes.now c.in_ok-order.order c.serve.new.ledger c.in_ok-order.ensures.wishes c.requires.new c.in_ok-order.ensures.ok
    c.in_ok-order.ensures.unlifted c.in_ok-order.ensures.fits

pub overflow_add-place : goal.overflow_add-place
overflow_add-place c = omega (arith, c.loop-place.invariant.low, c.requires.count)

pub loop-place-preserved-then-is_cheaper : goal.loop-place-preserved-then-is_cheaper
loop-place-preserved-then-is_cheaper c =
    sequencing-exchanged c.args.airport.now c.args.ledger.now.state c.args.wishes.now c.loop-place.order c.exchange.new.self c.loop-place.place c.loop-place.ledger c.exchange.new.ledger c.loop-place.invariant
    c.loop-place-test.true (c.in_ok-is_cheaper.ensures.exchanged c.args.ledger.now.state c.loop-place.invariant.served c.if-is_cheaper.true) c.in_ok-is_cheaper.ensures.unlifted c.in_ok-is_cheaper.ensures.fits

pub loop-place-preserved : goal.loop-place-preserved
loop-place-preserved c =
    let kept = c.in_ok-is_cheaper.ensures.kept c.args.ledger.now.state c.loop-place.invariant.served c.if-is_cheaper.false in
    sequencing-kept c.args.airport.now c.args.ledger.now.state c.args.wishes.now c.loop-place.order c.exchange.new.self c.loop-place.place c.loop-place.ledger c.exchange.new.ledger c.loop-place.invariant
    c.loop-place-test.true (c.loop-place.place + 1) refl kept.0 kept.1 c.in_ok-is_cheaper.ensures.unlifted c.in_ok-is_cheaper.ensures.fits

pub returns-clause-ok : goal.returns-clause-ok
returns-clause-ok c =
    rw c.of.ensures (sequencing-last c.args.airport.now c.args.ledger.now.state c.args.wishes.now c.loop-place.order c.loop-place.place c.loop-place.ledger c.loop-place.invariant c.loop-place-test.false)
