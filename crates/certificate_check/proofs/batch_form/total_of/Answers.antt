use Rattle.std.proofs.Common.{arith}
use Rattle.std.proofs.lemmas.Int.{ints}
use Rattle.certificate_check.proofs.BatchForm.{total-next}
use Rattle.certificate_check.proofs.batch_form.total_of.Goals as goal

pub loop-name-preserved : goal.loop-name-preserved
loop-name-preserved c =
    let more = total-next c.args.wishes.now c.args.entries.now c.loop-name.name-index c.loop-name-test.true c.loop-name-item.result c.loop-name-item.is in
    record {
      sum = omega (arith, ints, more, c.cost_among-total.ensures.cost);
      least = omega (arith, ints);
      most = omega (arith, ints);
    }
