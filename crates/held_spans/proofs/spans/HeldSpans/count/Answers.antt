use Rattle.std.proofs.Common.{◌≡◌, ◌<◌, ◌≤◌, ◌∙◌, List, length, get_or, sym, ap}
use Rattle.taxi_base.specs.declared.rows.Span.{Span}
use Rattle.std.proofs.Common.{ℕ}
use Rattle.held_spans.proofs.SpanLaws.{rows-got, rows-past}
use Rattle.held_spans.proofs.spans.HeldSpans.count.Goals as goal

pub returns-in-Some : goal.returns-in-Some
returns-in-Some c =
    let held = c.args.self.now in
    let lookup = c.in-Some.ensures.lookup in
    let low : c.args.segment.0 < length held.lists.items = rw c.deref.ensures.value at lookup.3.0 in
    let is : c.in-Some.list.now ≡ get_or held.lists.items c.args.segment.0 c.in-Some.list.now = rw c.deref.ensures.value at lookup.1 in
    c.count.ensures ∙ ap (λ (rows : List (Span × List ℕ)). length rows) (sym (rows-got held c.args.segment c.in-Some.list.now low is))

pub returns-in-None : goal.returns-in-None
returns-in-None c =
    let held = c.args.self.now in
    let past : length held.lists.items ≤ c.args.segment.0 = rw c.deref.ensures.value at c.in-None.ensures.lookup.3 in
    ap (λ (rows : List (Span × List ℕ)). length rows) (sym (rows-past held c.args.segment past))
