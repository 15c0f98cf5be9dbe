use Rattle.std.proofs.Common.{ℕ, ◌∙◌, List, insert, ap}
use Rattle.taxi_base.specs.declared.rows.Span.{Span}
use Rattle.held_spans.specs.Rows.{SpanRows}
use Rattle.held_spans.proofs.RowLaws.{put-permutes}
use Rattle.held_spans.proofs.segment_spans.SegmentSpans.put.Goals as goal

pub returns-clause-ok : goal.returns-clause-ok
returns-clause-ok c =
    let place = c.place_in_order-place.result in
    put-permutes c.self.inside.spans.items c.self.inside.holders.items c.args.self.now.rows (ap (λ (l : SpanRows). l.rows) c.self.view_is) c.self.invariant.0 place c.args.span c.args.holder.now
    c.insert_reserved.new.items.items c.insert_reserved-2.new.items.items (c.insert_reserved.ensures.items ∙ ap (λ (xs : List Span). insert xs place c.args.span) c.reserve.ensures.items)
    (c.insert_reserved-2.ensures.items ∙ ap (λ (xs : List (List ℕ)). insert xs place c.args.holder.now) c.reserve-2.ensures.items)

pub invariant_of-self : goal.invariant_of-self
invariant_of-self c = rw c.in_err-reserve.ensures.items c.self.invariant
