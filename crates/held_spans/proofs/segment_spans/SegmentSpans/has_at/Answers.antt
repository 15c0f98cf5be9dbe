use Rattle.std.proofs.Common.{ℕ, ◌≡◌, ◌<◌, ◌∙◌, List, length, get_or, Some, sym, ap, arith}
use Rattle.std.proofs.lemmas.Bool.{both_ways}
use Rattle.std.proofs.lemmas.List.{get_or_default}
use Rattle.taxi_base.specs.declared.rows.Span.{Span}
use Rattle.held_spans.specs.Rows.{SpanRows}
use Rattle.held_spans.proofs.RowLaws.{rows-length, row-at}
use Rattle.held_spans.proofs.segment_spans.SegmentSpans.has_at.Goals as goal

pub index-requires : goal.index-requires
index-requires c =
    let many = rows-length c.self.inside.spans.items c.self.inside.holders.items c.args.self.now.rows (ap (λ (l : SpanRows). l.rows) c.self.view_is) c.self.invariant.0 in
    omega (arith, many, c.self.inside.spans.ok, c.requires)

pub index-requires-then-is_same_span : goal.index-requires-then-is_same_span
index-requires-then-is_same_span c =
    let many = rows-length c.self.inside.spans.items c.self.inside.holders.items c.args.self.now.rows (ap (λ (l : SpanRows). l.rows) c.self.view_is) c.self.invariant.0 in
    omega (arith, many, c.self.invariant.0, c.self.inside.holders.ok, c.requires)

pub returns-then-is_same_span : goal.returns-then-is_same_span
returns-then-is_same_span c =
    let span = c.index.result.now in
    let name = c.index-then-is_same_span.result.now in
    let at = row-at c.self.inside.spans.items c.self.inside.holders.items c.args.self.now.rows (ap (λ (l : SpanRows). l.rows) c.self.view_is) c.self.invariant.0 c.args.place span name c.requires
    c.index.ensures c.index-then-is_same_span.ensures in (
      λ e. let same_span = c.is_same_span.ensures.0 c.if-is_same_span.true in
          let same_name = c.is_same_name.ensures.0 e in
          let pair : ◌≡◌ {A = Span × List ℕ} (span, name) (c.args.span, c.args.holder.now) = λ i. (same_span i, same_name i) in
          at ∙ ap Some pair,
      λ got. let same : ◌≡◌ {A = Span × List ℕ} (span, name) (c.args.span, c.args.holder.now) = cc (sym at ∙ got) in
          c.is_same_name.ensures.1 (ap (λ (row : Span × List ℕ). row.1) same),
    )

pub returns-else-is_same_span : goal.returns-else-is_same_span
returns-else-is_same_span c =
    let span = c.index.result.now in
    let names = c.self.inside.holders.items in
    let many = rows-length c.self.inside.spans.items names c.args.self.now.rows (ap (λ (l : SpanRows). l.rows) c.self.view_is) c.self.invariant.0 in
    let low : c.args.place < length names = omega (arith, many, c.self.invariant.0, c.requires) in
    let name = get_or names c.args.place c.args.holder.now in
    let at = row-at c.self.inside.spans.items names c.args.self.now.rows (ap (λ (l : SpanRows). l.rows) c.self.view_is) c.self.invariant.0 c.args.place span name c.requires
    c.index.ensures (get_or_default names c.args.place c.args.holder.now name low) in (
      λ e. absurd (both_ways _ c.if-is_same_span.false e),
      λ got. let same : ◌≡◌ {A = Span × List ℕ} (span, name) (c.args.span, c.args.holder.now) = cc (sym at ∙ got) in
          c.is_same_span.ensures.1 (ap (λ (row : Span × List ℕ). row.0) same),
    )
