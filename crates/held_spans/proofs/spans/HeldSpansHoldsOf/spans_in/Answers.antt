use Rattle.std.proofs.Common.{ℕ, List, length, map, ◌≡◌, ◌<◌, ◌≤◌, get_or, ◌∙◌, sym, ap}
use Rattle.taxi_base.specs.declared.rows.Span.{Span}
use Rattle.taxi_base.specs.Windows.{covers}
use Rattle.held_spans.specs.Spans.{holds_in_lists}
use Rattle.held_spans.proofs.SpanLaws.{AreSpansOf-own, covers-held, rows-got, rows-past}
use Rattle.held_spans.proofs.spans.HeldSpansHoldsOf.spans_in.Goals as goal

abbrev unnamed : List (Span × List ℕ) → List Span
unnamed rows = map (λ row. row.0) rows

pub returns-in-Some : goal.returns-in-Some
returns-in-Some c t has =
    let held = c.args.self.now in
    let lookup = c.in-Some.ensures.lookup in
    let low : c.args.segment.0 < length held.lists.items = rw c.deref.ensures.value at lookup.3.0 in
    let is : c.in-Some.list.now ≡ get_or held.lists.items c.args.segment.0 c.in-Some.list.now = rw c.deref.ensures.value at lookup.1 in
    c.spans_in.ensures t has ∙ ap (λ (spans : List Span). covers spans t) (sym (ap unnamed (rows-got held c.args.segment c.in-Some.list.now low is))) ∙ covers-held held (holds_in_lists held) (AreSpansOf-own held) c.args.segment t

pub returns-in-None : goal.returns-in-None
returns-in-None c t has =
    let held = c.args.self.now in
    let past : length held.lists.items ≤ c.args.segment.0 = rw c.deref.ensures.value at c.in-None.ensures.lookup.3 in
    ap (λ (spans : List Span). covers spans t) (sym (ap unnamed (rows-past held c.args.segment past))) ∙ covers-held held (holds_in_lists held) (AreSpansOf-own held) c.args.segment t
