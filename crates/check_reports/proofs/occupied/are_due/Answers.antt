use Rattle.check_rows.proofs.LoopLaws.{all-more, all-holds, says-yes}
use Rattle.check_reports.specs.HeldRows.{IsRowDue}
use Rattle.check_reports.proofs.occupied.are_due.Goals as goal

pub loop-row-preserved : goal.loop-row-preserved
loop-row-preserved c =
    all-more (IsRowDue c.args.airport.now c.args.spans.now c.args.segment) c.args.rows.now c.loop-row.row-index c.row-item.result c.loop-row-test.true
    c.loop-row.invariant (rw c.row-item.is at (says-yes _ c.if-not-is_due.false c.is_due.ensures))

pub returns : goal.returns
returns c = all-holds (IsRowDue c.args.airport.now c.args.spans.now c.args.segment) c.args.rows.now c.loop-row.row-index c.loop-row-test.false c.loop-row.invariant
