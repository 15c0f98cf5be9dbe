use Rattle.taxi_base.specs.declared.numbers.Segment.{Segment}
use Rattle.check_rows.proofs.LoopLaws.{all-fails, all-more, all-holds, says-no, says-yes}
use Rattle.check_reports.specs.HeldRows.{IsTold}
use Rattle.check_reports.proofs.occupied.are_all_told.Goals as goal

abbrev none : Segment
none = record { 0 = 0 }

pub returns-then-not-is_told : goal.returns-then-not-is_told
returns-then-not-is_told c =
    all-fails (IsTold c.args.spans.now c.args.rows.now) c.args.segments.now c.loop-segment.segment-index none c.loop-segment-test.true (says-no _ c.if-not-is_told.true c.is_told.ensures)

pub loop-segment-preserved : goal.loop-segment-preserved
loop-segment-preserved c =
    all-more (IsTold c.args.spans.now c.args.rows.now) c.args.segments.now c.loop-segment.segment-index none c.loop-segment-test.true c.loop-segment.invariant (says-yes _ c.if-not-is_told.false c.is_told.ensures)

pub returns : goal.returns
returns c = all-holds (IsTold c.args.spans.now c.args.rows.now) c.args.segments.now c.loop-segment.segment-index c.loop-segment-test.false c.loop-segment.invariant
