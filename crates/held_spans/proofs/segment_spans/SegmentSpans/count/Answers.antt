use Rattle.std.proofs.Common.{ap, arith}
use Rattle.held_spans.specs.Rows.{SpanRows}
use Rattle.held_spans.proofs.RowLaws.{rows-length}
use Rattle.held_spans.proofs.segment_spans.SegmentSpans.count.Goals as goal

pub returns : goal.returns
returns c =
    let many = rows-length c.self.inside.spans.items c.self.inside.holders.items c.args.self.now.rows (ap (λ (l : SpanRows). l.rows) c.self.view_is) c.self.invariant.0 in
    omega (arith, many, c.self.inside.spans.ok, c.len.ensures)
