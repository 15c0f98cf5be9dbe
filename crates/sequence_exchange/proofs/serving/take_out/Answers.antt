use Rattle.std.proofs.Common.{◌-◌, refl, arith, length}
use Rattle.sequence_exchange.proofs.UndoneLaws.{undoing-first, undoing-next}
use Rattle.sequence_exchange.proofs.serving.take_out.Goals as goal

pub loop-left-init : goal.loop-left-init
loop-left-init c = undoing-first c.args.airport.now c.args.entries.now (length c.args.entries.now) c.args.ledger.now refl c.requires.unlifted c.requires.fits

pub loop-left-preserved-in-loop-left : goal.loop-left-preserved-in-loop-left
loop-left-preserved-in-loop-left c =
    undoing-next c.args.airport.now c.args.entries.now (c.loop-left.left - 1) c.loop-left.left c.args.ledger.now.state c.loop-left.ledger c.cancel.new.self c.index-entries-left.result c.cancel.result
    (omega arith) c.loop-left.invariant c.index-entries-left.is c.cancel.ensures.flight c.cancel.ensures.state c.cancel.ensures.unchanged c.cancel.ensures.unlifted c.cancel.ensures.fits

pub loop-left-preserved : goal.loop-left-preserved
loop-left-preserved c =
    undoing-next c.args.airport.now c.args.entries.now (c.loop-left.left - 1) c.loop-left.left c.args.ledger.now.state c.loop-left.ledger c.cancel.new.self c.index-entries-left.result c.cancel.result
    (omega arith) c.loop-left.invariant c.index-entries-left.is c.cancel.ensures.flight c.cancel.ensures.state c.cancel.ensures.unchanged c.cancel.ensures.unlifted c.cancel.ensures.fits
