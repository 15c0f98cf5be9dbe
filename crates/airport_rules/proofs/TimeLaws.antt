-- Which times are kept, once there is room for more classes or one more time.
use Rattle.std.proofs.Common.{◌≡◌, ◌≢◌, ◌<◌, ◌≤◌, ◌+◌, ◌*◌, ◌-◌, ℕ, Bool, true, false, List, [], ◌∷◌, ◌++◌, ◌∙◌, length, get_or, set, take, replicate, refl, sym, subst, arith, inl, inr, get_or-set_same, get_or-set_other, eq-eqb}
use Rattle.std.specs.Prelude.{◌==◌, ◌&&◌, ◌||◌}
use Rattle.std.proofs.lemmas.Bool.{cases_Bool, cases_lt, both_ways, eqb-true}
use Rattle.std.proofs.lemmas.Bool.Decides.{nat_tests}
use Rattle.std.proofs.lemmas.List.{get_or_append_left, get_or-append_right, get_or-replicate, get_or_past, length-replicate, take_all}
use Rattle.std.proofs.lemmas.List.Folds.{list_any-append}
use Rattle.taxi_base.specs.declared.numbers.Segment.{Segment}
use Rattle.taxi_base.specs.declared.numbers.Class.{Class}
use Rattle.airport_rules.specs.declared.rows.TimeRow.{TimeRow}
use Rattle.airport_rules.specs.Indexed.{time_place, AreTimed}

-- two places are one where their segments and classes are
same-place : (a b c d : ℕ) → a < 10000 → c < 10000 → (b * 10000 + a == d * 10000 + c) ≡ (a == c && b == d)
same-place a b c d low small = grind (arith, nat_tests, low, small)

empty-room : (n i : ℕ) → get_or (replicate n false) i false ≡ false
empty-room n i = elim (cases_lt i n) [
  | inl low ↦ get_or-replicate n i false false low
  | inr past ↦ get_or_past (replicate n false) i false (simp length-replicate past)
]

more-room : (xs : List Bool) (n k : ℕ) → get_or (xs ++ replicate n false) k false ≡ get_or xs k false
more-room xs n k = elim (cases_lt k (length xs)) [
  | inl low ↦ get_or_append_left xs (replicate n false) false k low
  | inr past ↦ get_or-append_right xs (replicate n false) (length xs) k false refl past ∙ empty-room n (k - length xs) ∙ sym (get_or_past xs k false past)
]

-- with room for more classes, which have no time yet
pub AreTimed-room : (times : List TimeRow) (timed : List Bool) (n more : ℕ) → length timed ≤ n → AreTimed times timed → AreTimed times (take n timed ++ replicate more false)
AreTimed-room times timed n more low old segment class few = rw (take_all n timed low) (more-room timed more (time_place segment class) ∙ old segment class few)

-- with one more time
pub AreTimed-push : (times : List TimeRow) (timed : List Bool) (row : TimeRow) → row.segment.0 < 10000 → time_place row.segment row.class < length timed → AreTimed times timed
    → AreTimed (times ++ row ∷ []) (set timed (time_place row.segment row.class) true)
AreTimed-push times timed row small within old segment class few =
    let same = same-place row.segment.0 row.class.0 segment.0 class.0 small few in
    let before = old segment class few in
    let appended = list_any-append (λ (t : TimeRow). t.segment.0 == segment.0 && t.class.0 == class.0) times (row ∷ []) in
    elim (cases_Bool (time_place row.segment row.class == time_place segment class)) [
      | inl here ↦
          let is : time_place row.segment row.class ≡ time_place segment class = eqb-true _ _ here in
          subst (λ z. get_or (set timed (time_place row.segment row.class) true) z false ≡ true) is (get_or-set_same timed (time_place row.segment row.class) true false within)
          ∙ sym (appended ∙ grind (arith, nat_tests, same, here))
      | inr other ↦
          let apart : time_place segment class ≢ time_place row.segment row.class = λ e. both_ways _ other (eq-eqb _ _ (sym e)) in
          get_or-set_other timed (time_place row.segment row.class) (time_place segment class) true false apart ∙ before ∙ sym (appended ∙ grind (arith, nat_tests, same, other))
    ]
