use Rattle.std.proofs.Common.{◌≡◌, ◌∙◌, ◌+◌, suc, ap, arith}
use Rattle.taxi_base.specs.State.{without}
use Rattle.late_repair.proofs.BackLaws.{making-next}
use Rattle.late_repair.proofs.taken_out.make_way.Goals as goal

pub loop-holder-preserved : goal.loop-holder-preserved
loop-holder-preserved c =
    let next : c.loop-holder.holder-index + 1 ≡ suc c.loop-holder.holder-index = omega arith in
    rw next
    (making-next c.args.airport.now c.args.holders.now c.args.ledger.now c.loop-holder.holder-index c.loop-holder.ledger c.loop-holder.invariant c.holder-item.result c.loop-holder-test.true c.holder-item.is
    c.take_whoever_out.new.ledger (c.take_whoever_out.ensures.state ∙ ap (λ n. without n c.loop-holder.ledger.state) c.name.ensures) c.take_whoever_out.ensures.room c.take_whoever_out.ensures.unlifted
    c.take_whoever_out.ensures.fits)
