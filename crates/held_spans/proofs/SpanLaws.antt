-- Spans that are put in a list of their segment, and taken out, each with the name of its holder.
use Rattle.std.proofs.Common.{◌≡◌, ◌≢◌, ◌↔◌, ◌∙◌, ℕ, zero, suc, ◌+◌, ◌<◌, ◌≤◌, Bool, true, false, ◌&&◌, ◌==◌, eqb, cond, List, [], ◌∷◌, ◌++◌, ◌⊎◌, length, get_or, set, map, inl, inr, IsTrue, IsFalse, Option, Some, refl, sym, ap, subst, arith}
use Rattle.std.specs.Prelude.{Contains, sum_by, slice_get, bytes_eq}
use Rattle.std.specs.Option.{option_map_or}
use Rattle.std.specs.Cmp.Lexicographic.{bytes_decides}
use Rattle.std.specs.List.Sorted.{IsPermutation}
use Rattle.std.proofs.lemmas.Bool.{cases_lt, cases_Bool, eqb-true, eq-eqb, and_from, and_parts, both_ways, false_from_ne_true}
use Rattle.std.proofs.lemmas.List.{get_or-set_same, get_or-set_other, length-set}
use Rattle.std.proofs.lemmas.List.Sums.{sum_by-append, sum_by-cons}
use Rattle.std.proofs.lemmas.List.Sorted.{sum_by_pushed, sum_by_popped}
use Rattle.std.proofs.lemmas.Option.{slice_get-get_or, slice_get_past}
use Rattle.taxi_base.specs.declared.numbers.Segment.{Segment}
use Rattle.taxi_base.specs.declared.rows.Span.{Span}
use Rattle.taxi_base.specs.Windows.{Hold, span_has, covers}
use Rattle.taxi_base.proofs.WindowLaws.{Span-same}
use Rattle.taxi_base.proofs.InOrder.{same_answer}
use Rattle.held_spans.specs.declared.spans.HeldSpans.{HeldSpans}
use Rattle.held_spans.specs.Holds.{held_at}
use Rattle.held_spans.specs.Rows.{SpanRows}
use Rattle.held_spans.specs.Spans.{rows_at, spans_at, weight_on, AreSpansOf, NamedHold, weight_by, AreHeldBy, named_from, named_in_lists, holds_in_lists, room_at}
use Rattle.held_spans.proofs.SumLaws.{sum-some, some-sum, any-sum, sum-mapped}

-- ---- one list is set

module _ {X : Type 0} (xs : List X) (i : ℕ) (y : X) where
  pub got-same : i < length xs → slice_get (set xs i y) i ≡ Some y
  got-same on = slice_get-get_or (set xs i y) i y (omega (arith, on, length-set xs i y)) ∙ ap Some (get_or-set_same xs i y y on)

  pub got-other : (k : ℕ) → k ≢ i → slice_get (set xs i y) k ≡ slice_get xs k
  got-other k other =
      elim (cases_lt k (length xs)) [
        | inl on ↦ slice_get-get_or (set xs i y) k y (omega (arith, on, length-set xs i y)) ∙ ap Some (get_or-set_other xs i k y y other) ∙ sym (slice_get-get_or xs k y on)
        | inr past ↦ slice_get_past (set xs i y) k (omega (arith, past, length-set xs i y)) ∙ sym (slice_get_past xs k past)
      ]

-- what a holder holds on one segment
abbrev pub one_hold : Segment → Span → List ℕ → NamedHold
one_hold segment span holder = record { hold = record { segment = segment; span = span }; holder = holder }

-- the place of a segment in a weight
weight-here : (weight : Span × List ℕ → ℕ) (s segment : Segment) (span : Span) (holder : List ℕ) → segment.0 ≡ s.0 → weight_by weight s (one_hold segment span holder ∷ []) ≡ weight (span, holder)
weight-here weight s segment span holder same = let is_it = eq-eqb _ _ same in rw is_it (omega arith)

weight-elsewhere : (weight : Span × List ℕ → ℕ) (s segment : Segment) (span : Span) (holder : List ℕ) → (eqb segment.0 s.0 ≡ false) → weight_by weight s (one_hold segment span holder ∷ []) ≡ 0
weight-elsewhere weight s segment span holder other = rw other (omega arith)

-- what is summed over a hold and others
pub weight-cons : (weight : Span → ℕ) (s : Segment) (h : Hold) (holds : List Hold) → weight_on weight s (h ∷ holds) ≡ weight_on weight s (h ∷ []) + weight_on weight s holds
weight-cons weight s h holds =
    let of_h : Hold → ℕ = λ x. cond (x.segment.0 == s.0) (weight x.span) 0 in omega (arith, sum_by-cons of_h h holds, sum_by-cons of_h h [])

pub weight-append : (weight : Span → ℕ) (s : Segment) (holds others : List Hold) → weight_on weight s (holds ++ others) ≡ weight_on weight s holds + weight_on weight s others
weight-append weight s holds others = sum_by-append _ holds others

pub named-cons : (weight : Span × List ℕ → ℕ) (s : Segment) (h : NamedHold) (holds : List NamedHold) → weight_by weight s (h ∷ holds) ≡ weight_by weight s (h ∷ []) + weight_by weight s holds
named-cons weight s h holds =
    let of_h : NamedHold → ℕ = λ x. cond (x.hold.segment.0 == s.0) (weight (x.hold.span, x.holder)) 0 in omega (arith, sum_by-cons of_h h holds, sum_by-cons of_h h [])

pub named-append : (weight : Span × List ℕ → ℕ) (s : Segment) (holds others : List NamedHold) → weight_by weight s (holds ++ others) ≡ weight_by weight s holds + weight_by weight s others
named-append weight s holds others = sum_by-append _ holds others

-- the same of holds in another order
pub AreHeldBy-same : (held : HeldSpans) (holds others : List NamedHold) → ((s : Segment) (weight : Span × List ℕ → ℕ) → weight_by weight s holds ≡ weight_by weight s others) → AreHeldBy holds held → AreHeldBy others held
AreHeldBy-same held holds others same are = record { each = λ s weight. are.each s weight ∙ same s weight }

-- ---- without the names

pub weight-unnamed : (weight : Span → ℕ) (s : Segment) (holds : List NamedHold) → weight_on weight s (map (λ (h : NamedHold). h.hold) holds) ≡ weight_by (λ row. weight row.0) s holds
weight-unnamed weight s holds = sum-mapped (λ (h : Hold). cond (h.segment.0 == s.0) (weight h.span) 0) (λ (h : NamedHold). h.hold) holds

pub AreSpansOf-held : (held : HeldSpans) (holds : List NamedHold) → AreHeldBy holds held → AreSpansOf (map (λ (h : NamedHold). h.hold) holds) held
AreSpansOf-held held holds are = record {
  each = λ s weight. sum-mapped weight (λ (row : Span × List ℕ). row.0) (rows_at held s) ∙ are.each s (λ row. weight row.0) ∙ sym (weight-unnamed weight s holds);
}

-- ---- a span is put in, or taken out

module _ (old new : HeldSpans) (segment : Segment) (on : segment.0 < length old.lists.items) (was list : SpanRows)
    (there : slice_get old.lists.items segment.0 ≡ Some was) (is : new.lists.items ≡ set old.lists.items segment.0 list) where
  at-here : (s : Segment) → segment.0 ≡ s.0 → slice_get new.lists.items s.0 ≡ Some list
  at-here s same = ap (λ n. slice_get new.lists.items n) (sym same) ∙ ap (λ (xs : List SpanRows). slice_get xs segment.0) is ∙ got-same old.lists.items segment.0 list on

  at-before : (s : Segment) → segment.0 ≡ s.0 → slice_get old.lists.items s.0 ≡ Some was
  at-before s same = ap (λ n. slice_get old.lists.items n) (sym same) ∙ there

  at-other : (s : Segment) → eqb segment.0 s.0 ≡ false → slice_get new.lists.items s.0 ≡ slice_get old.lists.items s.0
  at-other s other = ap (λ (xs : List SpanRows). slice_get xs s.0) is ∙ got-other old.lists.items segment.0 list s.0 (λ e. both_ways _ other (eq-eqb _ _ (sym e)))

  -- one more span
  pub put-row : (span : Span) (holder : List ℕ) → IsPermutation ((span, holder) ∷ was.rows) list.rows → (holds : List NamedHold) → AreHeldBy holds old → AreHeldBy (holds ++ one_hold segment span holder ∷ []) new
  put-row span holder more holds are = record { each = λ s weight. go s weight (cases_Bool (eqb segment.0 s.0)) } where
    go : (s : Segment) (weight : Span × List ℕ → ℕ) → (IsTrue (eqb segment.0 s.0)) ⊎ (IsFalse (eqb segment.0 s.0)) → sum_by weight (rows_at new s) ≡ weight_by weight s (holds ++ one_hold segment span holder ∷ [])
    go s weight (inl is_it) =
        let same = eqb-true segment.0 s.0 is_it in
        let before = rw (at-before s same) at (are.each s weight) in
        let one = weight-here weight s segment span holder same in
        let pushed = sum_by_pushed weight (span, holder) was.rows list.rows more in
        rw (at-here s same) (omega (arith, before, one, pushed, named-append weight s holds (one_hold segment span holder ∷ [])))
    go s weight (inr other) =
        let before = are.each s weight in
        let none = weight-elsewhere weight s segment span holder other in
        rw (at-other s other) (omega (arith, before, none, named-append weight s holds (one_hold segment span holder ∷ [])))

  -- one span less
  pub take-row : (span : Span) (holder : List ℕ) → IsPermutation was.rows ((span, holder) ∷ list.rows) → (holds : List NamedHold) → AreHeldBy (one_hold segment span holder ∷ holds) old → AreHeldBy holds new
  take-row span holder less holds are = record { each = λ s weight. go s weight (cases_Bool (eqb segment.0 s.0)) } where
    go : (s : Segment) (weight : Span × List ℕ → ℕ) → (IsTrue (eqb segment.0 s.0)) ⊎ (IsFalse (eqb segment.0 s.0)) → sum_by weight (rows_at new s) ≡ weight_by weight s holds
    go s weight (inl is_it) =
        let same = eqb-true segment.0 s.0 is_it in
        let before = rw (at-before s same) at (are.each s weight) in
        let one = weight-here weight s segment span holder same in
        let popped = sum_by_popped weight (span, holder) was.rows list.rows less in
        rw (at-here s same) (omega (arith, before, one, popped, named-cons weight s (one_hold segment span holder) holds))
    go s weight (inr other) =
        let before = are.each s weight in
        let none = weight-elsewhere weight s segment span holder other in
        rw (at-other s other) (omega (arith, before, none, named-cons weight s (one_hold segment span holder) holds))

  -- the same spans
  pub same-rows : list.rows ≡ was.rows → (holds : List NamedHold) → AreHeldBy holds old → AreHeldBy holds new
  same-rows same holds are = record { each = λ s weight. go s weight (cases_Bool (eqb segment.0 s.0)) } where
    go : (s : Segment) (weight : Span × List ℕ → ℕ) → (IsTrue (eqb segment.0 s.0)) ⊎ (IsFalse (eqb segment.0 s.0)) → sum_by weight (rows_at new s) ≡ weight_by weight s holds
    go s weight (inl is_it) =
        let at = eqb-true segment.0 s.0 is_it in
        let before = rw (at-before s at) at (are.each s weight) in
        rw (at-here s at, same) before
    go s weight (inr other) = rw (at-other s other) (are.each s weight)

  -- room by the room of the one list
  pub put-room : was.room ≤ list.room + 1 → (s : Segment) → room_at old s ≤ room_at new s + cond (eqb segment.0 s.0) 1 0
  put-room less s = go (cases_Bool (eqb segment.0 s.0)) where
    go : (IsTrue (eqb segment.0 s.0)) ⊎ (IsFalse (eqb segment.0 s.0)) → room_at old s ≤ room_at new s + cond (eqb segment.0 s.0) 1 0
    go (inl is_it) = let same = eqb-true segment.0 s.0 is_it in rw (at-here s same, at-before s same, is_it) less
    go (inr other) = rw (at-other s other, other) (omega arith)

  pub take-room : was.room + 1 ≤ list.room → (s : Segment) → room_at old s + cond (eqb segment.0 s.0) 1 0 ≤ room_at new s
  take-room more s = go (cases_Bool (eqb segment.0 s.0)) where
    go : (IsTrue (eqb segment.0 s.0)) ⊎ (IsFalse (eqb segment.0 s.0)) → room_at old s + cond (eqb segment.0 s.0) 1 0 ≤ room_at new s
    go (inl is_it) = let same = eqb-true segment.0 s.0 is_it in rw (at-here s same, at-before s same, is_it) more
    go (inr other) = rw (at-other s other, other) (omega arith)

  pub same-room : was.room ≤ list.room → (s : Segment) → room_at old s ≤ room_at new s
  same-room same s = go (cases_Bool (eqb segment.0 s.0)) where
    go : (IsTrue (eqb segment.0 s.0)) ⊎ (IsFalse (eqb segment.0 s.0)) → room_at old s ≤ room_at new s
    go (inl is_it) = let at = eqb-true segment.0 s.0 is_it in rw (at-here s at, at-before s at) same
    go (inr other) = rw (at-other s other) (omega arith)

pub no-room : (old : HeldSpans) (segment : Segment) (was : SpanRows) → slice_get old.lists.items segment.0 ≡ Some was → was.room ≡ 0 → room_at old segment ≡ 0
no-room old segment was there none = rw there none

-- ---- a span that is there

module _ (segment : Segment) (span : Span) (holder : List ℕ) where
  is_same : Span × List ℕ → Bool
  is_same row = row.0.from == span.from && row.0.until == span.until && bytes_eq row.1 holder

  one_if : Span × List ℕ → ℕ
  one_if row = cond (is_same row) 1 0

  its_weight : NamedHold → ℕ
  its_weight h = cond (h.hold.segment.0 == segment.0) (one_if (h.hold.span, h.holder)) 0

  ones : 0 < one_if (span, holder)
  unfolding is_same one_if
  ones =
      let is_it : IsTrue (span.from == span.from && span.until == span.until && bytes_eq holder holder) =
      and_from _ _ (and_from _ _ (eq-eqb span.from span.from refl) (eq-eqb span.until span.until refl)) ((bytes_decides holder holder).1 refl) in
      rw is_it (omega arith)

  weighs : (row : Span × List ℕ) → 0 < one_if row → ◌≡◌ {A = Span × List ℕ} row (span, holder)
  unfolding is_same one_if
  weighs row some = go (cases_Bool (row.0.from == span.from && row.0.until == span.until && bytes_eq row.1 holder)) some where
    go : (IsTrue (row.0.from == span.from && row.0.until == span.until && bytes_eq row.1 holder)) ⊎ (IsFalse (row.0.from == span.from && row.0.until == span.until && bytes_eq row.1 holder))
        → 0 < cond (row.0.from == span.from && row.0.until == span.until && bytes_eq row.1 holder) 1 0 → ◌≡◌ {A = Span × List ℕ} row (span, holder)
    go (inl is_it) some =
        let parts = and_parts (row.0.from == span.from && row.0.until == span.until) (bytes_eq row.1 holder) is_it in
        let ends = and_parts (row.0.from == span.from) (row.0.until == span.until) parts.0 in
        let one = Span-same row.0 span (eqb-true _ _ ends.0) (eqb-true _ _ ends.1) in
        let name = (bytes_decides row.1 holder).0 parts.1 in
        λ i. (one i, name i)
    go (inr other) some = absurd (let none = rw other at some in omega (arith, none))

  its_own : 0 < its_weight (one_hold segment span holder)
  unfolding its_weight
  its_own = let is_it = eq-eqb segment.0 segment.0 refl in rw is_it ones

  its_hold : (h : NamedHold) → 0 < its_weight h → h ≡ one_hold segment span holder
  unfolding its_weight
  its_hold h some = go (cases_Bool (eqb h.hold.segment.0 segment.0)) some where
    go : (IsTrue (eqb h.hold.segment.0 segment.0)) ⊎ (IsFalse (eqb h.hold.segment.0 segment.0)) → 0 < cond (eqb h.hold.segment.0 segment.0) (one_if (h.hold.span, h.holder)) 0
        → h ≡ one_hold segment span holder
    go (inl is_it) some =
        let number = eqb-true h.hold.segment.0 segment.0 is_it in
        let row = weighs (h.hold.span, h.holder) (rw is_it at some) in
        λ i. record { hold = record { segment = record { 0 = number i }; span = (row i).0 }; holder = (row i).1 }
    go (inr other) some = absurd (let none = rw other at some in omega (arith, none))

  -- it is in its segment's list just where it is among the holds
  pub held-among : (held : HeldSpans) (holds : List NamedHold) → AreHeldBy holds held → Contains holds (one_hold segment span holder) → Contains (rows_at held segment) (span, holder)
  unfolding its_weight
  held-among held holds are there =
      let all = some-sum its_weight holds (one_hold segment span holder) there its_own in
      let found = sum-some one_if (rows_at held segment) (omega (arith, are.each segment one_if, all)) in
      subst (Contains (rows_at held segment)) (weighs found.0 found.2) found.1

  pub among-held : (held : HeldSpans) (holds : List NamedHold) → AreHeldBy holds held → Contains (rows_at held segment) (span, holder) → Contains holds (one_hold segment span holder)
  unfolding its_weight
  among-held held holds are there =
      let all = some-sum one_if (rows_at held segment) (span, holder) there ones in
      let found = sum-some its_weight holds (omega (arith, are.each segment one_if, all)) in
      subst (Contains holds) (its_hold found.0 found.2) found.1

-- a list that has something is one of the lists
pub there-on : (held : HeldSpans) (segment : Segment) (row : Span × List ℕ) → Contains (rows_at held segment) row → segment.0 < length held.lists.items
there-on held segment row there =
    elim (cases_lt segment.0 (length held.lists.items)) [
      | inl on ↦ on
      | inr past ↦ absurd (let none = subst (λ (o : Option SpanRows). Contains (option_map_or (λ (list : SpanRows). list.rows) o []) row) (slice_get_past held.lists.items segment.0 past) there in omega (arith, none.1))
    ]

pub rows-there : (held : HeldSpans) (segment : Segment) (list : SpanRows) → slice_get held.lists.items segment.0 ≡ Some list → rows_at held segment ≡ list.rows
rows-there held segment list at = rw at refl

-- ---- all holds of the lists

own-list : (weight : Span × List ℕ → ℕ) (s : Segment) (n : ℕ) (rows : List (Span × List ℕ))
    → weight_by weight s (map (λ (row : Span × List ℕ). one_hold (record { 0 = n }) row.0 row.1) rows) ≡ cond (eqb n s.0) (sum_by weight rows) 0
own-list weight s n rows = go (cases_Bool (eqb n s.0)) rows where
  go : (IsTrue (eqb n s.0)) ⊎ (IsFalse (eqb n s.0)) → (rows : List (Span × List ℕ))
      → weight_by weight s (map (λ (row : Span × List ℕ). one_hold (record { 0 = n }) row.0 row.1) rows) ≡ cond (eqb n s.0) (sum_by weight rows) 0
  go (inl is_it) [] = rw is_it refl
  go (inr other) [] = rw other refl
  go (inl is_it) (row ∷ rows) =
      let rest = rw is_it at (go (inl is_it) rows) in
      let here = weight-here weight s (record { 0 = n }) row.0 row.1 (eqb-true n s.0 is_it) in
      rw is_it (omega (
        arith,
        rest,
        here,
        sum_by-cons weight row rows,
        named-cons weight s (one_hold (record { 0 = n }) row.0 row.1) (map (λ (row : Span × List ℕ). one_hold (record { 0 = n }) row.0 row.1) rows),
      ))
  go (inr other) (row ∷ rows) =
      let rest = rw other at (go (inr other) rows) in
      let none = weight-elsewhere weight s (record { 0 = n }) row.0 row.1 other in
      rw other (omega (
        arith,
        rest,
        none,
        named-cons weight s (one_hold (record { 0 = n }) row.0 row.1) (map (λ (row : Span × List ℕ). one_hold (record { 0 = n }) row.0 row.1) rows),
      ))

own-past : (weight : Span × List ℕ → ℕ) (s : Segment) (n : ℕ) (lists : List (List (Span × List ℕ))) → s.0 < n → weight_by weight s (named_from n lists) ≡ 0
own-past weight s n [] past = refl
own-past weight s n (rows ∷ lists) past =
    let other : eqb n s.0 ≡ false = false_from_ne_true _ (λ e. let same = eqb-true n s.0 e in omega (arith, same, past)) in
    let none = rw other at (own-list weight s n rows) in
    omega (
      arith,
      none,
      own-past weight s (n + 1) lists (omega arith),
      named-append weight s (map (λ (row : Span × List ℕ). one_hold (record { 0 = n }) row.0 row.1) rows) (named_from (n + 1) lists),
    )

own-at : (weight : Span × List ℕ → ℕ) (s : Segment) (n : ℕ) (lists : List (List (Span × List ℕ))) (k : ℕ) → n + k ≡ s.0 → weight_by weight s (named_from n lists) ≡ sum_by weight (get_or lists k [])
own-at weight s n [] k at = refl
own-at weight s n (rows ∷ lists) zero at =
    let is_it : eqb n s.0 ≡ true = eq-eqb n s.0 (omega (arith, at)) in
    let here = rw is_it at (own-list weight s n rows) in
    omega (
      arith,
      here,
      own-past weight s (n + 1) lists (omega (arith, at)),
      named-append weight s (map (λ (row : Span × List ℕ). one_hold (record { 0 = n }) row.0 row.1) rows) (named_from (n + 1) lists),
    )
own-at weight s n (rows ∷ lists) (suc k) at =
    let other : eqb n s.0 ≡ false = false_from_ne_true _ (λ e. let same = eqb-true n s.0 e in omega (arith, same, at)) in
    let none = rw other at (own-list weight s n rows) in
    omega (
      arith,
      none,
      own-at weight s (n + 1) lists k (omega (arith, at)),
      named-append weight s (map (λ (row : Span × List ℕ). one_hold (record { 0 = n }) row.0 row.1) rows) (named_from (n + 1) lists),
    )

rows-by_place : (lists : List SpanRows) (k : ℕ) → option_map_or (λ (list : SpanRows). list.rows) (slice_get lists k) [] ≡ get_or (map (λ (list : SpanRows). list.rows) lists) k []
rows-by_place [] k = refl
rows-by_place (list ∷ lists) zero = refl
rows-by_place (list ∷ lists) (suc k) = rows-by_place lists k

-- the lists have the spans of their own holds
pub AreHeldBy-own : (held : HeldSpans) → AreHeldBy (named_in_lists held) held
AreHeldBy-own held = record {
  each = λ s weight. ap (λ (rows : List (Span × List ℕ)). sum_by weight rows) (rows-by_place held.lists.items s.0)
      ∙ sym (own-at weight s 0 (map (λ (list : SpanRows). list.rows) held.lists.items) s.0 (omega arith));
}

-- lists with the same rows have the spans of the same holds
pub copied-held : (held copy : HeldSpans) → map (λ (list : SpanRows). list.rows) copy.lists.items ≡ map (λ (list : SpanRows). list.rows) held.lists.items → (holds : List NamedHold) → AreHeldBy holds held → AreHeldBy holds copy
copied-held held copy same holds are = record { each = λ s weight. ap (λ (rows : List (Span × List ℕ)). sum_by weight rows) (rows-same s) ∙ are.each s weight } where
  rows-same : (s : Segment) → rows_at copy s ≡ rows_at held s
  rows-same s =
      rows-by_place copy.lists.items s.0 ∙ ap (λ (lists : List (List (Span × List ℕ))). get_or lists s.0 []) same ∙ sym (rows-by_place held.lists.items s.0)

pub AreSpansOf-own : (held : HeldSpans) → AreSpansOf (holds_in_lists held) held
AreSpansOf-own held = AreSpansOf-held held (named_in_lists held) (AreHeldBy-own held)

-- ---- seconds

-- the spans have just the seconds for which their segment is held
pub covers-held : (held : HeldSpans) (holds : List Hold) → AreSpansOf holds held → (s : Segment) (t : ℕ) → covers (spans_at held s) t ≡ held_at holds s t
covers-held held holds are s t =
    let weight : Span → ℕ = λ span. cond (span_has span t) 1 0 in
    let left = any-sum weight (λ span. span_has span t) (λ span. one-some (span_has span t)) (spans_at held s) in
    let right = any-sum (λ (h : Hold). cond (h.segment.0 == s.0) (weight h.span) 0) (λ (h : Hold). h.segment.0 == s.0 && span_has h.span t) (λ h. two-some (h.segment.0 == s.0) (span_has h.span t)) holds in
    let same = are.each s weight in
    same_answer _ _ (λ e. right.1 (omega (arith, left.0 e, same))) (λ e. left.1 (omega (arith, right.0 e, same)))
  where
    one-some : (b : Bool) → IsTrue b ↔ (0 < cond b 1 0)
    one-some true = (λ _. omega arith, λ _. refl)
    one-some false = (λ e. absurd (cc e), λ some. absurd (omega (arith, some)))

    two-some : (a b : Bool) → IsTrue (a && b) ↔ (0 < cond a (cond b 1 0) 0)
    two-some true b = one-some b
    two-some false b = (λ e. absurd (cc e), λ some. absurd (omega (arith, some)))

-- a list that was looked up, and one that is not there
pub rows-got : (held : HeldSpans) (segment : Segment) (list : SpanRows) → segment.0 < length held.lists.items → list ≡ get_or held.lists.items segment.0 list → rows_at held segment ≡ list.rows
rows-got held segment list on is = rows-there held segment list (slice_get-get_or held.lists.items segment.0 list on ∙ ap (λ (l : SpanRows). Some l) (sym is))

pub rows-past : (held : HeldSpans) (segment : Segment) → length held.lists.items ≤ segment.0 → rows_at held segment ≡ []
rows-past held segment past = ap (λ (o : Option SpanRows). option_map_or (λ (list : SpanRows). list.rows) o []) (slice_get_past held.lists.items segment.0 past)
