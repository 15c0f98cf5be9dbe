use Rattle.taxi_base.specs.declared.numbers.Segment.{Segment}
use Rattle.segment_windows.proofs.GapLaws.{busy-more}
use Rattle.segment_windows.proofs.making.fill_busy.Goals as goal

pub loop-segment-preserved : goal.loop-segment-preserved
loop-segment-preserved g c =
    let none : Segment = record { 0 = 0 } in
    let more = busy-more (g.H.HoldsOf.held c.args.holds.now) c.args.segments.now c.loop-segment.segment-index c.loop-segment.busy.items c.spans.result.now c.push_busy.new.busy.items none c.loop-segment-test.true
    c.in_ok-push_busy.ensures c.loop-segment.invariant.some c.loop-segment.invariant.same (λ t. c.spans.ensures t) in
    record { some = more.0; same = more.1 }
