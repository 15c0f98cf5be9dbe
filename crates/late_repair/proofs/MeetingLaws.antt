-- The first second that a hold and others have in common: of one, of those of two lists, and step by step.
use Rattle.std.proofs.Common.{◌≡◌, ◌∙◌, ℕ, suc, ◌<◌, ◌≤◌, min, Bool, List, [], ◌∷◌, ◌++◌, length, take, get_or, Option, Some, None, IsTrue, IsFalse, sym, ap, subst, arith, inl, inr}
use Rattle.std.specs.List.{list_any}
use Rattle.std.proofs.Math.Seq.{take-suc}
use Rattle.std.proofs.lemmas.Bool.{cases_lt, and_parts, false_from_ne_true, both_ways}
use Rattle.std.proofs.lemmas.List.{map-append}
use Rattle.std.proofs.lemmas.List.Elements.{Contains-append_cases, Contains-append_left, Contains-append_right}
use Rattle.taxi_base.specs.declared.rows.Step.{Step}
use Rattle.taxi_base.specs.Airport.{Airport, conflict}
use Rattle.taxi_base.specs.Windows.{Hold, hold_of, holds_of, span_has, clash, blocks}
use Rattle.taxi_base.specs.Late.{IsFirstCommon}
use Rattle.taxi_base.proofs.ListLaws.{list_any-true, list_any-member, list_any-false_member}
use Rattle.taxi_base.proofs.HoldLaws.{clash-from}
use Rattle.taxi_base.proofs.WindowLaws.{span_has-from, span_has-true}
use Rattle.taxi_base.proofs.LateLaws.{common-meets}
use Rattle.late_repair.specs.Repairing.{earlier, IsFirstCommonOf}

-- ---- one of two lists

module _ {X : Type 0} (p : X → Bool) (xs ys : List X) where
  any-left : IsTrue (list_any p xs) → IsTrue (list_any p (xs ++ ys))
  any-left some = let found = list_any-true p xs some in list_any-member p (xs ++ ys) found.0 (Contains-append_left xs ys found.0 found.1) found.2

  any-right : IsTrue (list_any p ys) → IsTrue (list_any p (xs ++ ys))
  any-right some = let found = list_any-true p ys some in list_any-member p (xs ++ ys) found.0 (Contains-append_right xs ys found.0 found.1) found.2

  any-neither : IsFalse (list_any p xs) → IsFalse (list_any p ys) → IsFalse (list_any p (xs ++ ys))
  any-neither none nor = false_from_ne_true _ (λ some.
      let found = list_any-true p (xs ++ ys) some in
      elim (Contains-append_cases xs ys found.0 found.1) [
        | inl here ↦ both_ways _ (list_any-false_member p xs found.0 here none) found.2
        | inr there ↦ both_ways _ (list_any-false_member p ys found.0 there nor) found.2
      ])

module _ (airport : Airport) (hold : Hold) where
  -- ---- one hold

  -- what does not meet the hold has none of its seconds
  none-blocks : (holds : List Hold) → IsFalse (list_any (clash airport.conflicts hold) holds) → (t : ℕ) → IsTrue (span_has hold.span t)
      → IsFalse (list_any (blocks airport.conflicts hold.segment t) holds)
  none-blocks holds none t within = false_from_ne_true _ (λ blocked.
      let found = list_any-true (blocks airport.conflicts hold.segment t) holds blocked in
      let parts = and_parts (conflict airport.conflicts hold.segment found.0.segment) (span_has found.0.span t) found.2 in
      both_ways _ none (list_any-member (clash airport.conflicts hold) holds found.0 found.1 (clash-from airport.conflicts hold found.0 t parts.0 within parts.1)))

  before-within : (second t : ℕ) → IsTrue (span_has hold.span second) → hold.span.from ≤ t → t < second → IsTrue (span_has hold.span t)
  before-within second t within low high = span_has-from hold.span t low (omega (arith, high, (span_has-true hold.span second within).1))

  module _ (xs ys : List Hold) where
    of-both : (s t : ℕ) → IsFirstCommon airport hold xs s → IsFirstCommon airport hold ys t → IsFirstCommon airport hold (xs ++ ys) (min s t)
    of-both s t a b = elim (cases_lt t s) [
      | inl later ↦
          let e : min s t ≡ t = omega (arith, later) in
          subst (IsFirstCommon airport hold (xs ++ ys)) (sym e) (record {
            within = b.within;
            common = any-right (blocks airport.conflicts hold.segment t) xs ys b.common;
            first = λ u low high. any-neither (blocks airport.conflicts hold.segment u) xs ys (a.first u low (omega (arith, later, high))) (b.first u low high);
          })
      | inr sooner ↦
          let e : min s t ≡ s = omega (arith, sooner) in
          subst (IsFirstCommon airport hold (xs ++ ys)) (sym e) (record {
            within = a.within;
            common = any-left (blocks airport.conflicts hold.segment s) xs ys a.common;
            first = λ u low high. any-neither (blocks airport.conflicts hold.segment u) xs ys (a.first u low high) (b.first u low (omega (arith, sooner, high)));
          })
    ]

    -- the first second that those of two lists have in common with it is the earlier one
    pub common-both : (one other : Option ℕ) → IsFirstCommonOf airport hold xs one → IsFirstCommonOf airport hold ys other → IsFirstCommonOf airport hold (xs ++ ys) (earlier one other)
    common-both None None none nor = any-neither (clash airport.conflicts hold) xs ys none nor
    common-both None (Some t) none b = record {
      within = b.within;
      common = any-right (blocks airport.conflicts hold.segment t) xs ys b.common;
      first = λ u low high. any-neither (blocks airport.conflicts hold.segment u) xs ys (none-blocks xs none u (before-within t u b.within low high)) (b.first u low high);
    }
    common-both (Some s) None a nor = record {
      within = a.within;
      common = any-left (blocks airport.conflicts hold.segment s) xs ys a.common;
      first = λ u low high. any-neither (blocks airport.conflicts hold.segment u) xs ys (a.first u low high) (none-blocks ys nor u (before-within s u a.within low high));
    }
    common-both (Some s) (Some t) a b = of-both s t a b

  -- ---- the steps of a flight, one after the other

  pub common-next : (horizon clearance : ℕ) (steps : List Step) (i : ℕ) (d : Step) (first other next : Option ℕ) → i < length steps
      → IsFirstCommonOf airport hold (holds_of horizon clearance (take i steps)) first → IsFirstCommonOf airport hold (hold_of horizon clearance (get_or steps i d) ∷ []) other
      → next ≡ earlier first other → IsFirstCommonOf airport hold (holds_of horizon clearance (take (suc i) steps)) next
  common-next horizon clearance steps i d first other next low so_far one e =
      let held : holds_of horizon clearance (take (suc i) steps) ≡ holds_of horizon clearance (take i steps) ++ hold_of horizon clearance (get_or steps i d) ∷ [] =
      ap (holds_of horizon clearance) (take-suc steps i d low) ∙ map-append (hold_of horizon clearance) (take i steps) (get_or steps i d ∷ []) in
      rw (held, e) (common-both (holds_of horizon clearance (take i steps)) (hold_of horizon clearance (get_or steps i d) ∷ []) first other so_far one)

  -- ---- whether they meet

  pub some-meets : (holds : List Hold) (second : ℕ) → IsFirstCommon airport hold holds second → IsTrue (list_any (clash airport.conflicts hold) holds)
  some-meets holds second common = common-meets airport hold holds second common
