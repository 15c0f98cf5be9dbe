use Rattle.std.proofs.Common.{ℕ, ◌≡◌, ◌<◌, ◌∙◌, List, [], Option, Some, None, IsTrue, IsFalse, length, get_or, cond, refl, sym, ap, subst, arith}
use Rattle.std.proofs.lemmas.List.{get_or_default}
use Rattle.taxi_base.specs.declared.rows.Span.{Span}
use Rattle.taxi_base.specs.Windows.{span_has}
use Rattle.held_spans.specs.Rows.{SpanRows}
use Rattle.held_spans.proofs.RowLaws.{rows-length, row-at}
use Rattle.held_spans.proofs.segment_spans.SegmentSpans.holder_at.Goals as goal

pub index-requires : goal.index-requires
index-requires c =
    let many = rows-length c.self.inside.spans.items c.self.inside.holders.items c.args.self.now.rows (ap (λ (l : SpanRows). l.rows) c.self.view_is) c.self.invariant.0 in
    omega (arith, many, c.self.inside.spans.ok, c.requires)

pub index-requires-then-has_second : goal.index-requires-then-has_second
index-requires-then-has_second c =
    let many = rows-length c.self.inside.spans.items c.self.inside.holders.items c.args.self.now.rows (ap (λ (l : SpanRows). l.rows) c.self.view_is) c.self.invariant.0 in
    omega (arith, many, c.self.invariant.0, c.self.inside.holders.ok, c.requires)

pub returns-then-has_second : goal.returns-then-has_second
returns-then-has_second c row got =
    let span = c.index.result.now in
    let name = c.index-then-has_second.result.now in
    let at = row-at c.self.inside.spans.items c.self.inside.holders.items c.args.self.now.rows (ap (λ (l : SpanRows). l.rows) c.self.view_is) c.self.invariant.0 c.args.place span name c.requires
    c.index.ensures c.index-then-has_second.ensures in
    let same : ◌≡◌ {A = Span × List ℕ} (span, name) row = cc (sym at ∙ got) in
    let has : IsTrue (span_has span c.args.second) = sym c.has_second.ensures ∙ c.if-has_second.true in
    subst (λ (r : Span × List ℕ). ◌≡◌ {A = Option (List ℕ)} (Some name) (cond (span_has r.0 c.args.second) (Some r.1) None)) same (rw has refl)

pub returns-else-has_second : goal.returns-else-has_second
returns-else-has_second c row got =
    let span = c.index.result.now in
    let names = c.self.inside.holders.items in
    let many = rows-length c.self.inside.spans.items names c.args.self.now.rows (ap (λ (l : SpanRows). l.rows) c.self.view_is) c.self.invariant.0 in
    let low : c.args.place < length names = omega (arith, many, c.self.invariant.0, c.requires) in
    let name = get_or names c.args.place [] in
    let at = row-at c.self.inside.spans.items names c.args.self.now.rows (ap (λ (l : SpanRows). l.rows) c.self.view_is) c.self.invariant.0 c.args.place span name c.requires
    c.index.ensures (get_or_default names c.args.place [] name low) in
    let same : ◌≡◌ {A = Span × List ℕ} (span, name) row = cc (sym at ∙ got) in
    let lacks : IsFalse (span_has span c.args.second) = sym c.has_second.ensures ∙ c.if-has_second.false in
    subst (λ (r : Span × List ℕ). ◌≡◌ {A = Option (List ℕ)} None (cond (span_has r.0 c.args.second) (Some r.1) None)) same (rw lacks refl)
