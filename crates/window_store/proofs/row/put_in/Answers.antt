use Rattle.std.proofs.Common.{◌≡◌, ℕ, suc, ◌+◌, ◌-◌, ◌<◌, ◌≤◌, List, length, sym, ◌∙◌, ap, subst, arith}
use Rattle.std.specs.Prelude.{insert, remove, slice_set}
use Rattle.std.proofs.lemmas.List.{get_or_default}
use Rattle.std.proofs.lemmas.List.Edits.{length-insert}
use Rattle.taxi_base.specs.declared.rows.Span.{Span}
use Rattle.taxi_base.specs.Windows.{AreApart}
use Rattle.interval_list.specs.Intervals.{hull, with_span}
use Rattle.window_store.specs.Rows.{no_span, AreOverBy, span_in}
use Rattle.window_store.proofs.Rows.{past-of, with-gap, with-one, with-two}
use Rattle.window_store.proofs.row.put_in.Goals as goal

-- what `ends_before` tells of the place at in a row that is read as xs
abbrev IsBefore : Span → List Span → ℕ → Type 0
IsBefore s xs at = at < length xs → s.until < (span_in xs at).from

abbrev IsReached : Span → List Span → ℕ → Type 0
IsReached s xs at = (at < length xs) × ((span_in xs at).from ≤ s.until)

module _ (row xs : List Span) (s : Span) (second at : ℕ) (some : s.from < s.until) (apart : AreApart 0 row) (same : xs ≡ row) (before : second ≡ s.from - 1) (over : AreOverBy xs second at) where
  over_row : AreOverBy row second at
  over_row = subst (λ (zs : List Span). AreOverBy zs second at) same over

  past : ((k : ℕ) → k < at → (span_in row k).until < s.from) × (at < length row → s.from ≤ (span_in row at).until)
  past = past-of s some row second at apart before over_row

  few : at ≤ length row
  few = over_row.few

  gap : (ys : List Span) → ys ≡ row → IsBefore s ys at → with_span s row ≡ insert row at s
  gap ys is next = with-gap s some 0 row at apart over_row.few past.0 (subst (λ (zs : List Span). IsBefore s zs at) is next)

  reached : (ys : List Span) (n : ℕ) → ys ≡ row → IsReached s ys n → IsReached s row n
  reached ys n is met = subst (λ (zs : List Span). IsReached s zs n) is met

  one : (ys : List Span) (next : ℕ) (w x : Span) → IsReached s row at → ys ≡ row → next ≡ suc at → IsBefore s ys next → w ≡ span_in row at → x ≡ hull s w → with_span s row ≡ slice_set row at x
  one ys next w x met is on clear read made =
      with-one s some 0 row at apart met.0 past.0 (past.1 met.0) met.1 (subst (λ (n : ℕ). IsBefore s row n) on (subst (λ (zs : List Span). IsBefore s zs next) is clear))
      ∙ sym (ap (λ y. slice_set row at y) (made ∙ ap (λ v. hull s v) read))

  two : (ys rest : List Span) (next last : ℕ) (w v x y : Span) → IsReached s row at → IsReached s row next → next ≡ suc at → ys ≡ row → last ≡ suc (suc at) → IsBefore s ys last
      → w ≡ span_in row at → v ≡ span_in row next → x ≡ hull s w → y ≡ hull x v → rest ≡ remove row next → with_span s row ≡ slice_set rest at y
  two ys rest next last w v x y met met' on is on' clear read read' made made' went =
      let here : IsReached s row (suc at) = subst (λ (n : ℕ). IsReached s row n) on met' in
      with-two s some 0 row at apart here.0 past.0 (past.1 met.0) here.1 (subst (λ (n : ℕ). IsBefore s row n) on' (subst (λ (zs : List Span). IsBefore s zs last) is clear))
      ∙ sym (
      ap (λ zs. slice_set zs at y) (went ∙ ap (λ (n : ℕ). remove row n) on)
      ∙ ap (λ z. slice_set (remove row (suc at)) at z) (made' ∙ ap (λ z. hull z v) (made ∙ ap (λ z. hull s z) read) ∙ ap (λ z. hull (hull s (span_in row at)) z) (read' ∙ ap (λ (n : ℕ). span_in row n) on))
      )

pub put_at-requires-clause-room : goal.put_at-requires-clause-room
put_at-requires-clause-room c =
    let row = c.args.row.now.items in let at = c.over_by-at.result in
    let same = gap row c.deref.result.now c.args.span c.saturating_sub.result at c.requires.some c.requires.apart c.deref.ensures.value c.saturating_sub.ensures c.over_by-at.ensures
    c.deref-2.result.now c.deref-2.ensures.value (c.ends_before.ensures.yes c.if-ends_before.true) in
    let within = few row c.deref.result.now c.args.span c.saturating_sub.result at c.requires.some c.requires.apart c.deref.ensures.value c.saturating_sub.ensures c.over_by-at.ensures in
    omega (arith, c.requires.room, ap length same, length-insert row at c.args.span within)

pub returns-then-ends_before-clause-given : goal.returns-then-ends_before-clause-given
returns-then-ends_before-clause-given c _ =
    let row = c.args.row.now.items in let at = c.over_by-at.result in
    let same = gap row c.deref.result.now c.args.span c.saturating_sub.result at c.requires.some c.requires.apart c.deref.ensures.value c.saturating_sub.ensures c.over_by-at.ensures
    c.deref-2.result.now c.deref-2.ensures.value (c.ends_before.ensures.yes c.if-ends_before.true) in
    c.put_at.ensures.put ∙ sym same

pub returns-then-ends_before-2-clause-given : goal.returns-then-ends_before-2-clause-given
returns-then-ends_before-2-clause-given c _ =
    let row = c.args.row.now.items in let at = c.over_by-at.result in let xs = c.deref.result.now in let second = c.saturating_sub.result in
    let met = reached row xs c.args.span second at c.requires.some c.requires.apart c.deref.ensures.value c.saturating_sub.ensures c.over_by-at.ensures
    c.deref-2.result.now at c.deref-2.ensures.value (c.ends_before.ensures.no c.if-ends_before.false) in
    sym (one row xs c.args.span second at c.requires.some c.requires.apart c.deref.ensures.value c.saturating_sub.ensures c.over_by-at.ensures
    c.deref-3.result.now (at + 1) c.index.result.now c.joined-first.result met c.deref-3.ensures.value (omega arith) (c.ends_before-2.ensures.yes c.if-ends_before-2.true)
    (c.index.ensures ∙ get_or_default row at _ no_span met.0) c.joined-first.ensures)

pub returns-clause-given : goal.returns-clause-given
returns-clause-given c _ =
    let row = c.args.row.now.items in let at = c.over_by-at.result in let xs = c.deref.result.now in let second = c.saturating_sub.result in
    let met = reached row xs c.args.span second at c.requires.some c.requires.apart c.deref.ensures.value c.saturating_sub.ensures c.over_by-at.ensures
    c.deref-2.result.now at c.deref-2.ensures.value (c.ends_before.ensures.no c.if-ends_before.false) in
    let met' = reached row xs c.args.span second at c.requires.some c.requires.apart c.deref.ensures.value c.saturating_sub.ensures c.over_by-at.ensures
    c.deref-3.result.now (at + 1) c.deref-3.ensures.value (c.ends_before-2.ensures.no c.if-ends_before-2.false) in
    sym (two row xs c.args.span second at c.requires.some c.requires.apart c.deref.ensures.value c.saturating_sub.ensures c.over_by-at.ensures
    c.deref-4.result.now c.remove-second.new.self.items (at + 1) (at + 2) c.index.result.now c.remove-second.result c.joined-first.result c.joined.result met met' (omega arith)
    c.deref-4.ensures.value (omega arith) (c.ends_before-3.ensures.yes c.if-not-ends_before.false)
    (c.index.ensures ∙ get_or_default row at _ no_span met.0) (c.remove-second.ensures.value ∙ get_or_default row (at + 1) _ no_span met'.0)
    c.joined-first.ensures c.joined.ensures c.remove-second.ensures.items)
