use Rattle.std.proofs.Common.{ap, arith}
use Rattle.held_spans.specs.Rows.{SpanRows}
use Rattle.held_spans.proofs.RowLaws.{rows-length, row-at}
use Rattle.held_spans.proofs.segment_spans.SegmentSpans.row.Goals as goal

pub index-requires : goal.index-requires
index-requires c =
    let many = rows-length c.self.inside.spans.items c.self.inside.holders.items c.args.self.now.rows (ap (λ (l : SpanRows). l.rows) c.self.view_is) c.self.invariant.0 in
    omega (arith, many, c.self.inside.spans.ok, c.requires)

pub index-requires-2 : goal.index-requires-2
index-requires-2 c =
    let many = rows-length c.self.inside.spans.items c.self.inside.holders.items c.args.self.now.rows (ap (λ (l : SpanRows). l.rows) c.self.view_is) c.self.invariant.0 in
    omega (arith, many, c.self.invariant.0, c.self.inside.holders.ok, c.requires)

pub returns : goal.returns
returns c =
    row-at c.self.inside.spans.items c.self.inside.holders.items c.args.self.now.rows (ap (λ (l : SpanRows). l.rows) c.self.view_is) c.self.invariant.0 c.args.place c.index.result.now c.index-2.result.now c.requires
    c.index.ensures c.index-2.ensures
