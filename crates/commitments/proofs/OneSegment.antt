-- The steps of one segment in the order in which they begin: where one is, and which of them have a second.
use Rattle.std.proofs.Common.{◌≡◌, ◌≢◌, ℕ, zero, suc, ◌+◌, ◌-◌, ◌<◌, ◌≤◌, ◌==◌, List, [], ◌∷◌, ◌++◌, length, get_or, take, drop, Some, IsFalse, Option, refl, sym, ap, ◌∙◌, inl, inr, subst, arith}
use Rattle.std.specs.Prelude.{All, Contains, slice_get, IfNone, IsSome, None}
use Rattle.std.specs.List.{AllWithin}
use Rattle.std.specs.List.Sorted.{IsNonDecreasingBy}
use Rattle.std.proofs.lemmas.Bool.{cases_Bool, cases_lt, cond-true, cond-false, or_from, or_right, or_left, false_from_ne_true, both_ways}
use Rattle.std.proofs.lemmas.List.{take-append-drop, get_or-take, get_or-drop, length-take, length-drop, map-append, get_or_default}
use Rattle.std.proofs.lemmas.List.Elements.{All-map, Contains-append_right}
use Rattle.std.proofs.lemmas.List.Folds.{list_any_none}
use Rattle.std.proofs.lemmas.List.Sorted.{IsNonDecreasingBy-drop}
use Rattle.taxi_base.specs.declared.rows.Span.{Span}
use Rattle.taxi_base.specs.Airport.{Airport, IsWellFormed, clearance_of}
use Rattle.taxi_base.specs.Windows.{covers, span_has}
use Rattle.taxi_base.proofs.AirportLaws.{clearance_of-range}
use Rattle.taxi_base.proofs.ListLaws.{Contains-map, list_any-member}
use Rattle.taxi_base.proofs.WindowLaws.{span_has-from, span_has-true}
use Rattle.window_store.specs.Held.{IsFirstHeld}
use Rattle.window_store.specs.Conflicting.{ReachesUpTo}
use Rattle.window_store.proofs.Seconds.{covers-append}
use Rattle.commitments.specs.declared.segment_holds.HeldStep.{HeldStep}
use Rattle.commitments.specs.declared.segment_holds.Holder.{Holder}
use Rattle.commitments.specs.Held.{hold_by, clearance_after, spans_by, AreSince}

abbrev begins : HeldStep → ℕ
begins held = held.step.enter

-- ---- where a step is

slice_get-drop : {X : Type 0} (n : ℕ) (xs : List X) (k : ℕ) → slice_get (drop n xs) k ≡ slice_get xs (n + k)
slice_get-drop zero xs k = let e : 0 + k ≡ k = omega arith in rw e refl
slice_get-drop (suc n) [] k = refl
slice_get-drop (suc n) (x ∷ xs) k = let e : suc n + k ≡ suc (n + k) = omega arith in rw e (slice_get-drop n xs k)

-- a step that is there is found among those that do not begin before it
pub found-since : (steps : List HeldStep) (held : HeldStep) (n : ℕ) → Contains steps held → AllWithin (λ s. s.step.enter < held.step.enter) steps 0 n → All (λ other. other ≢ held) (drop n steps) → ⊥
found-since steps held n there before none =
    let k = there.0 in
    let on : k < length steps = there.1 in
    elim (cases_lt k n) [
      | inl below ↦
          let early : (get_or steps k held).step.enter < held.step.enter = before k held (omega arith) below in
          let late : held.step.enter < held.step.enter = subst (λ (s : HeldStep). s.step.enter < held.step.enter) there.2 early in
          omega arith
      | inr from ↦
          let e : n + (k - n) ≡ k = omega arith in
          none (k - n) held (omega (arith, length-drop n steps)) (get_or-drop n steps (k - n) held ∙ ap (λ j. get_or steps j held) e ∙ there.2)
    ]

pub found-some : (steps : List HeldStep) (held : HeldStep) (n : ℕ) → Contains steps held → AllWithin (λ s. s.step.enter < held.step.enter) steps 0 n
    → (place : Option ℕ) → IfNone place (All (λ other. other ≢ held) (drop n steps)) → IsSome place
found-some steps held n there before None none = absurd (found-since steps held n there before none)
found-some steps held n there before (Some k) none = refl

pub place-is : (steps : List HeldStep) (n k : ℕ) (held : HeldStep) → slice_get (drop n steps) k ≡ Some held → slice_get steps (n + k) ≡ Some held
place-is steps n k held found = sym (slice_get-drop n steps k) ∙ found

-- ---- the steps that may have a second or a later one

pub since-past : (steps : List HeldStep) (longest second n : ℕ) → IsNonDecreasingBy begins steps → All (λ s. s.step.leave + 600 ≤ s.step.enter + longest) steps → n ≤ length steps
    → AllWithin (λ s. s.step.enter < (second + 1) - longest) steps 0 n → AreSince steps second (drop n steps)
since-past steps longest second n ordered reach few before = record {
  over = take n steps;
  all = sym (take-append-drop n steps);
  short = λ k d low.
      let in_n : k < n = omega (arith, length-take n steps) in
      rw (get_or-take n steps k d) (omega (arith, reach k d (omega arith), before k d (omega arith) in_n));
  rising = IsNonDecreasingBy-drop begins n steps ordered;
}

-- ---- spans

pub clearance-short : (airport : Airport) (holder : Holder) → IsWellFormed airport → clearance_after airport holder ≤ 600
clearance-short airport holder rules =
    elim (cases_Bool (holder.party == 1)) [
      | inl party ↦ omega (arith, cond-true {A = ℕ} (holder.party == 1) 0 (clearance_of airport holder.class) party)
      | inr flight ↦ omega (arith, cond-false {A = ℕ} (holder.party == 1) 0 (clearance_of airport holder.class) flight, clearance_of-range airport holder.class rules)
    ]

none-cover : (airport : Airport) (steps : List HeldStep) (t : ℕ) → All (λ held. IsFalse (span_has (hold_by airport held).span t)) steps → IsFalse (covers (spans_by airport steps) t)
none-cover airport steps t none = list_any_none (λ (w : Span). span_has w t) (spans_by airport steps) (All-map (λ (w : Span). IsFalse (span_has w t)) (λ held. (hold_by airport held).span) steps none)

module _ (airport : Airport) (rules : IsWellFormed airport) where
  -- what is over by a second has none from there on
  over-none : (over : List HeldStep) (second t : ℕ) → All (λ held. held.step.leave + 600 ≤ second) over → second ≤ t → IsFalse (covers (spans_by airport over) t)
  over-none over second t short late =
      none-cover airport over t (λ k d low.
      let held = get_or over k d in
      false_from_ne_true (span_has (hold_by airport held).span t) (λ has.
      let inside = span_has-true (hold_by airport held).span t has in
      absurd (omega (arith, inside.1, short k d low, clearance-short airport held.holder rules))))

-- what begins later has no second before
pub later-none : (airport : Airport) (rest : List HeldStep) (i t : ℕ) (e : HeldStep) → IsNonDecreasingBy begins rest → i < length rest → t < (get_or rest i e).step.enter
    → IsFalse (covers (spans_by airport (drop i rest)) t)
later-none airport rest i t e rising low early =
    none-cover airport (drop i rest) t (λ k d on.
    rw (get_or-drop i rest k d)
    (false_from_ne_true _ (λ has.
    let on_all : i + k < length rest = omega (arith, length-drop i rest) in
    let inside = span_has-true (hold_by airport (get_or rest (i + k) d)).span t has in
    let first : (get_or rest i d).step.enter ≤ (get_or rest (i + k) d).step.enter = rising i (i + k) d (omega arith) on_all in
    let same : (get_or rest i e).step.enter ≡ (get_or rest i d).step.enter = ap (λ (held : HeldStep). held.step.enter) (get_or_default rest i e d low) in
    absurd (omega (arith, inside.0)))))

-- ---- the first second that one of the steps has

-- some more spans that have no second before it change nothing
pub first-beside : (xs ys : List Span) (from until first : ℕ) → IsFirstHeld xs from until first → ((t : ℕ) → from ≤ t → t < first → IsFalse (covers ys t)) → IsFirstHeld (xs ++ ys) from until first
first-beside xs ys from until first held none = record {
  not_before = held.not_before;
  not_after = held.not_after;
  none_before = λ t low high. covers-append xs ys t ∙ or_from (covers xs t) (covers ys t) (held.none_before t low high) (none t low high);
  held = λ h. covers-append xs ys first ∙ or_left (covers xs first) (covers ys first) (held.held h);
}

first-behind : (xs ys : List Span) (from until first : ℕ) → IsFirstHeld ys from until first → ((t : ℕ) → from ≤ t → t < first → IsFalse (covers xs t)) → IsFirstHeld (xs ++ ys) from until first
first-behind xs ys from until first held none = record {
  not_before = held.not_before;
  not_after = held.not_after;
  none_before = λ t low high. covers-append xs ys t ∙ or_from (covers xs t) (covers ys t) (none t low high) (held.none_before t low high);
  held = λ h. covers-append xs ys first ∙ or_right (covers xs first) (covers ys first) (held.held h);
}

pub spans-append : (airport : Airport) (xs ys : List HeldStep) → spans_by airport (xs ++ ys) ≡ spans_by airport xs ++ spans_by airport ys
spans-append airport xs ys = map-append (λ held. (hold_by airport held).span) xs ys

-- none has begun before the second up to which one is looked for
pub first-none_begun : (airport : Airport) (steps : List HeldStep) (from until : ℕ) → from ≤ until → All (λ s. until ≤ s.step.enter) steps → IsFirstHeld (spans_by airport steps) from until until
first-none_begun airport steps from until order late = record {
  not_before = order;
  not_after = omega arith;
  none_before = λ t low high.
      none-cover airport steps t (λ k d on.
      false_from_ne_true _ (λ has.
      let inside = span_has-true (hold_by airport (get_or steps k d)).span t has in
      absurd (omega (arith, inside.0, late k d on, high))));
  held = λ h. absurd (omega (arith, h));
}

module _ (airport : Airport) (rules : IsWellFormed airport) (steps rest : List HeldStep) (from until : ℕ) (since : AreSince steps from rest) where
  -- among those since the first second it is the same as among all
  pub first-since : (first : ℕ) → IsFirstHeld (spans_by airport rest) from until first → IsFirstHeld (spans_by airport steps) from until first
  first-since first held =
      rw (since.all, spans-append airport since.over rest)
      (first-behind (spans_by airport since.over) (spans_by airport rest) from until first held (λ t low high. over-none airport rules since.over from t since.short low))

  -- once the steps begin no sooner, no later one has a sooner second
  pub first-stopped : (first i : ℕ) (e : HeldStep) → i < length rest → first ≤ (get_or rest i e).step.enter → IsFirstHeld (spans_by airport (take i rest)) from until first
      → IsFirstHeld (spans_by airport steps) from until first
  first-stopped first i e low late held =
      let parts : spans_by airport rest ≡ spans_by airport (take i rest) ++ spans_by airport (drop i rest) =
      ap (spans_by airport) (sym (take-append-drop i rest)) ∙ spans-append airport (take i rest) (drop i rest) in
      first-since first
      (rw parts (first-beside (spans_by airport (take i rest)) (spans_by airport (drop i rest)) from until first held (λ t low_t high. later-none airport rest i t e since.rising low (omega arith))))

  -- ---- up to when one of them has each second

  none-reaches : IsFalse (covers (spans_by airport steps) from) → ReachesUpTo (spans_by airport steps) from from
  none-reaches none = record { held = λ t low high. absurd (omega arith); later = λ h. absurd (both_ways _ none h) }

  since-none : IsFalse (covers (spans_by airport rest) from) → IsFalse (covers (spans_by airport steps) from)
  since-none none =
      rw (since.all, spans-append airport since.over rest)
      (covers-append (spans_by airport since.over) (spans_by airport rest) from
      ∙ or_from (covers (spans_by airport since.over) from) (covers (spans_by airport rest) from) (over-none airport rules since.over from from since.short (omega arith)) none)

  -- none has the second
  pub reaches-none_since : IsFalse (covers (spans_by airport rest) from) → ReachesUpTo (spans_by airport steps) from from
  reaches-none_since none = none-reaches (since-none none)

  -- none of the first ones has it, and the others begin later
  pub reaches-stopped : (i : ℕ) (e : HeldStep) → i < length rest → from < (get_or rest i e).step.enter → IsFalse (covers (spans_by airport (take i rest)) from) → ReachesUpTo (spans_by airport steps) from from
  reaches-stopped i e low late none =
      let parts : spans_by airport rest ≡ spans_by airport (take i rest) ++ spans_by airport (drop i rest) =
      ap (spans_by airport) (sym (take-append-drop i rest)) ∙ spans-append airport (take i rest) (drop i rest) in
      reaches-none_since
      (rw parts (covers-append (spans_by airport (take i rest)) (spans_by airport (drop i rest)) from
      ∙ or_from (covers (spans_by airport (take i rest)) from) (covers (spans_by airport (drop i rest)) from) none (later-none airport rest i from e since.rising low late)))

  -- one has it
  pub reaches-one : (i : ℕ) (e : HeldStep) → i < length rest → (get_or rest i e).step.enter ≤ from → from < (hold_by airport (get_or rest i e)).span.until
      → ReachesUpTo (spans_by airport steps) from (hold_by airport (get_or rest i e)).span.until
  reaches-one i e low early late =
      let one = get_or rest i e in
      let there : Contains steps one = subst (λ (xs : List HeldStep). Contains xs one) (sym since.all) (Contains-append_right since.over rest one (i, low, get_or_default rest i one e low)) in
      record {
        held = λ t from_t until_t.
            list_any-member (λ (w : Span). span_has w t) (spans_by airport steps) (hold_by airport one).span (Contains-map (λ held. (hold_by airport held).span) steps one there)
            (span_has-from (hold_by airport one).span t (omega arith) until_t);
        later = λ _. late;
      }
