use Rattle.std.proofs.Common.{ap, arith}
use Rattle.held_spans.specs.Rows.{SpanRows}
use Rattle.held_spans.proofs.RowLaws.{rows-length, none-there}
use Rattle.held_spans.proofs.segment_spans.SegmentSpans.place_of.Goals as goal

pub has_at-requires : goal.has_at-requires
has_at-requires c =
    let many = rows-length c.self.inside.spans.items c.self.inside.holders.items c.args.self.now.rows (ap (λ (l : SpanRows). l.rows) c.self.view_is) c.self.invariant.0 in
    omega (arith, many, c.self.inside.spans.ok, c.len.ensures, c.if-near-len.true)

pub has_at-requires-in-loop-place : goal.has_at-requires-in-loop-place
has_at-requires-in-loop-place c =
    let many = rows-length c.self.inside.spans.items c.self.inside.holders.items c.args.self.now.rows (ap (λ (l : SpanRows). l.rows) c.self.view_is) c.self.invariant.0 in
    omega (arith, many, c.self.inside.spans.ok, c.len-place-end.ensures, c.loop-place-test.true)

pub returns-clause-there : goal.returns-clause-there
returns-clause-there c there =
    let many = rows-length c.self.inside.spans.items c.self.inside.holders.items c.args.self.now.rows (ap (λ (l : SpanRows). l.rows) c.self.view_is) c.self.invariant.0 in
    absurd (none-there c.args.self.now.rows c.loop-place.place (c.args.span, c.args.holder.now) (omega (arith, many, c.self.inside.spans.ok, c.len-place-end.ensures, c.loop-place-test.false)) c.loop-place.invariant there)
