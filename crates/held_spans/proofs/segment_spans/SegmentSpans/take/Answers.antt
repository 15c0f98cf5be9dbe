use Rattle.std.proofs.Common.{◌≡◌, Some, ap, arith}
use Rattle.std.specs.Prelude.{slice_get}
use Rattle.held_spans.specs.Rows.{SpanRows}
use Rattle.held_spans.proofs.RowLaws.{got-low, rows-length, take-permutes}
use Rattle.held_spans.proofs.segment_spans.SegmentSpans.take.Goals as goal

pub returns-clause-rows : goal.returns-clause-rows
returns-clause-rows c =
    let rows = c.args.self.now.rows in
    let got : slice_get rows c.unwrap-place.result ≡ Some (c.args.span, c.args.holder.now) = rw c.unwrap-place.ensures at c.place_of.ensures.place in
    take-permutes c.self.inside.spans.items c.self.inside.holders.items rows (ap (λ (l : SpanRows). l.rows) c.self.view_is) c.self.invariant.0 c.unwrap-place.result c.args.span c.args.holder.now
    c.remove.new.self.items c.remove-2.new.self.items got c.remove.ensures.items c.remove-2.ensures.items

pub remove-requires : goal.remove-requires
remove-requires c =
    let rows = c.args.self.now.rows in
    let got : slice_get rows c.unwrap-place.result ≡ Some (c.args.span, c.args.holder.now) = rw c.unwrap-place.ensures at c.place_of.ensures.place in
    let low = got-low rows c.unwrap-place.result (c.args.span, c.args.holder.now) got in
    let many = rows-length c.self.inside.spans.items c.self.inside.holders.items rows (ap (λ (l : SpanRows). l.rows) c.self.view_is) c.self.invariant.0 in
    omega (arith, many, low, c.self.inside.spans.ok)
