use Rattle.std.proofs.Common.{not}
use Rattle.taxi_base.specs.declared.numbers.Segment.{Segment}
use Rattle.airport_lint.specs.declared.advice.Advice.TheVariants.{SegmentNoSeconds}
use Rattle.airport_lint.specs.Advice.{segment_advice, is_shared}
use Rattle.airport_lint.proofs.TellLaws.{tells-below, tells-one, denied}
use Rattle.airport_lint.proofs.tell.tell_segments.Goals as goal

pub loop-number-preserved : goal.loop-number-preserved
loop-number-preserved c =
    let airport = c.args.airport.now in
    let segment : Segment = record { 0 = c.loop-number.number } in
    tells-below airport segment_advice c.loop-number.number c.args.told.now.items c.loop-number.told.items c.tell_if.new.told.items c.loop-number.invariant
    (tells-one airport (SegmentNoSeconds segment) (not c.is_shared-shared.result) c.loop-number.told.items c.tell_if.new.told.items
    (denied c.is_shared-shared.result (is_shared airport segment segment) c.is_shared-shared.ensures) c.in_ok-tell_if.ensures)
