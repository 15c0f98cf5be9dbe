-- Lists that have all with a property, in order of number: how they begin, grow and are filtered, and how a member is tested.
use Rattle.std.proofs.Common.{◌≡◌, ℕ, ◌<◌, Bool, true, false, List, [], ◌∷◌, ◌++◌, length, get_or, ◌⊎◌, inl, inr, IsTrue, refl, sym, subst, arith, length-append}
use Rattle.std.specs.Prelude.{Contains, AllPairs, filter, ◌==◌}
use Rattle.std.specs.List.{list_any}
use Rattle.std.proofs.lemmas.Bool.{cases_lt, eqb-true, eq-eqb}
use Rattle.std.proofs.lemmas.List.{get_or_append_left, get_or_push}
use Rattle.std.proofs.lemmas.List.Elements.{Contains-append_left, Contains-push, Contains-push_cases, Contains-get_or}
use Rattle.std.proofs.lemmas.List.Kept.{AllPairs-filter}
use Rattle.taxi_base.proofs.ListLaws.{list_any-true, list_any-member, Contains-filter, filter-Contains}
use Rattle.taxi_base.specs.Lists.{AreAll}

-- two tests that imply each other
pub same_answer : (a b : Bool) → (IsTrue a → IsTrue b) → (IsTrue b → IsTrue a) → a ≡ b
same_answer true true f g = refl
same_answer true false f g = sym (f refl)
same_answer false true f g = g refl
same_answer false false f g = refl

-- a member, and the test for its number
pub test-Contains : {X : Type 0} (number : X → ℕ) (xs : List X) (x : X) → Contains xs x → IsTrue (list_any (λ y. number y == number x) xs)
test-Contains number xs x h = list_any-member (λ y. number y == number x) xs x h (eq-eqb (number x) (number x) refl)

pub Contains-test : {X : Type 0} (number : X → ℕ) (same : (x y : X) → number x ≡ number y → x ≡ y) (xs : List X) (x : X)
    → IsTrue (list_any (λ y. number y == number x) xs) → Contains xs x
Contains-test number same xs x h =
    let found = list_any-true (λ y. number y == number x) xs h in
    subst (Contains xs) (same found.0 x (eqb-true (number found.0) (number x) found.2)) found.1

pub AreAll-none : {X : Type 0} (number : X → ℕ) (Has : X → Type 0) → ((x : X) → Has x → ⊥) → AreAll number Has []
AreAll-none number Has none = record {
  rising = λ i j d low below. absurd (omega arith);
  each = λ x. (λ h. absurd (omega (arith, h.1)), λ h. absurd (none x h));
}

pub AreAll-same : {X : Type 0} (number : X → ℕ) (Had Has : X → Type 0) (xs : List X) → ((x : X) → Had x → Has x) → ((x : X) → Has x → Had x)
    → AreAll number Had xs → AreAll number Has xs
AreAll-same number Had Has xs to from all = record {
  rising = all.rising;
  each = λ x. (λ h. to x ((all.each x).0 h), λ h. (all.each x).1 (from x h));
}

rising-push : {X : Type 0} (number : X → ℕ) (xs : List X) (y : X) → AllPairs (λ a b. number a < number b) xs → ((x : X) → Contains xs x → number x < number y)
    → AllPairs (λ a b. number a < number b) (xs ++ y ∷ [])
rising-push number xs y rising above i j d low below =
    let first : i < length xs = omega (arith, length-append xs (y ∷ [])) in
    rw (get_or_append_left xs (y ∷ []) d i first)
    (elim (cases_lt j (length xs)) [
      | inl inside ↦ rw (get_or_append_left xs (y ∷ []) d j inside) (rising i j d low inside)
      | inr past ↦
          let last : length xs ≡ j = omega (arith, length-append xs (y ∷ [])) in
          rw (get_or_push xs y d j last) (above (get_or xs i d) (Contains-get_or xs i d first))
    ])

-- one more, whose number is above the others
pub AreAll-push : {X : Type 0} (number : X → ℕ) (Had Has : X → Type 0) (xs : List X) (y : X) → AreAll number Had xs → ((x : X) → Had x → number x < number y)
    → ((x : X) → Had x → Has x) → Has y → ((x : X) → Has x → Had x ⊎ (y ≡ x)) → AreAll number Has (xs ++ y ∷ [])
AreAll-push number Had Has xs y all above to is from = record {
  rising = rising-push number xs y all.rising (λ x h. above x ((all.each x).0 h));
  each = λ x. (
    λ h. elim (Contains-push_cases xs y x h) [ inl before ↦ to x ((all.each x).0 before) | inr here ↦ subst Has here is ],
    λ h. elim (from x h) [ inl before ↦ Contains-append_left xs (y ∷ []) x ((all.each x).1 before) | inr here ↦ subst (Contains (xs ++ y ∷ [])) here (Contains-push xs y) ],
  );
}

pub AreAll-filter : {X : Type 0} (number : X → ℕ) (Has : X → Type 0) (p : X → Bool) (xs : List X) → AreAll number Has xs → AreAll number (λ x. Has x × IsTrue (p x)) (filter p xs)
AreAll-filter number Has p xs all = record {
  rising = AllPairs-filter (λ a b. number a < number b) p xs all.rising;
  each = λ x. (
    λ h. let kept = filter-Contains p xs x h in ((all.each x).0 kept.0, kept.1),
    λ h. Contains-filter p xs x ((all.each x).1 h.0) h.1,
  );
}
