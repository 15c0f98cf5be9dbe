use Rattle.taxi_base.specs.declared.numbers.Arc.{Arc}
use Rattle.airport_lint.specs.declared.advice.Advice.TheVariants.{DeadEnd}
use Rattle.airport_lint.specs.Advice.{arc_advice}
use Rattle.airport_lint.proofs.TellLaws.{tells-below, tells-one}
use Rattle.airport_lint.proofs.tell.tell_arcs.Goals as goal

pub loop-number-preserved : goal.loop-number-preserved
loop-number-preserved c =
    let airport = c.args.airport.now in
    let arc : Arc = record { 0 = c.loop-number.number } in
    tells-below airport arc_advice c.loop-number.number c.args.told.now.items c.loop-number.told.items c.tell_if.new.told.items c.loop-number.invariant
    (tells-one airport (DeadEnd arc) c.is_dead_end-dead_end.result c.loop-number.told.items c.tell_if.new.told.items c.is_dead_end-dead_end.ensures c.in_ok-tell_if.ensures)
