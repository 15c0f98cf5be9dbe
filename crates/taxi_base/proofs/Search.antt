-- What a binary search says in a list in order of number.
use Rattle.std.proofs.Common.{◌≡◌, ℕ, ◌+◌, ◌<◌, Bool, true, false, List, length, get_or, inl, inr, refl, sym, ap, arith, Less, Equal, Greater, nat_cmp, is_lt, cond, Result, Ok, Err}
use Rattle.std.specs.Prelude.{AllPairs, ◌==◌, nat_lt, is_ok}
use Rattle.std.specs.List.{list_any}
use Rattle.std.specs.List.Sorted.{IsSortedBy, IsBinarySearchResult, IsSearchInRange}
use Rattle.std.proofs.lemmas.Bool.{false_from_ne_true, eq-eqb, le-ltb, cases_lt}
use Rattle.std.proofs.lemmas.Cmp.{ranked, nat_cmp_total}
use Rattle.std.proofs.lemmas.List.Folds.{list_any_at}
use Rattle.std.proofs.lemmas.List.Sorted.{searchable_from_sorted}
use Rattle.taxi_base.proofs.InOrder.{Contains-test}

pub lt-from_Less : (x y : ℕ) → nat_cmp x y ≡ Less → x < y
lt-from_Less x y e = ranked x y Less (sym e)

eq-from_Equal : (x y : ℕ) → nat_cmp x y ≡ Equal → x ≡ y
eq-from_Equal x y e = ranked x y Equal (sym e)

gt-from_Greater : (x y : ℕ) → nat_cmp x y ≡ Greater → y < x
gt-from_Greater x y e = ranked x y Greater (sym e)

not_less : (less same : Bool) → less ≡ false → is_lt (cond less Less (cond same Equal Greater)) ≡ false
not_less true same wrong = wrong
not_less false true wrong = refl
not_less false false wrong = refl

rising-sorted : {X : Type 0} (number : X → ℕ) (xs : List X) → AllPairs (λ x y. number x < number y) xs → IsSortedBy (λ x y. is_lt (nat_cmp (number x) (number y))) xs
rising-sorted number xs rising k d low high =
    let up = rising k (k + 1) d (omega arith) high in
    not_less (nat_lt (number (get_or xs (k + 1) d)) (number (get_or xs k d))) (number (get_or xs (k + 1) d) == number (get_or xs k d)) (le-ltb _ _ (omega arith))

-- it says whether the number is there
pub is_ok-search : {X : Type 0} (number : X → ℕ) (same : (x y : X) → number x ≡ number y → x ≡ y) (xs : List X) (t : X) (r : Result ℕ ℕ)
    → AllPairs (λ x y. number x < number y) xs → IsSearchInRange r (length xs) → IsBinarySearchResult (λ y. nat_cmp (number y) (number t)) xs r
    → is_ok r ≡ list_any (λ y. number y == number t) xs
is_ok-search number same xs t (Ok k) rising bound found =
    sym (list_any_at (λ y. number y == number t) xs k t bound (eq-eqb (number (get_or xs k t)) (number t) (eq-from_Equal _ _ (found t))))
is_ok-search number same xs t (Err k) rising bound found =
    let at = found (searchable_from_sorted {R = nat_cmp} nat_cmp_total number xs (number t) (rising-sorted number xs rising)) in
    sym (false_from_ne_true _ (λ h.
    let there = Contains-test number same xs t h in
    let number_is : number (get_or xs there.0 t) ≡ number t = ap number there.2 in
    elim (cases_lt there.0 k) [
      | inl before ↦ let below : number (get_or xs there.0 t) < number t = lt-from_Less _ _ (at.0 there.0 t (omega arith) before) in omega arith
      | inr after ↦ let above : number t < number (get_or xs there.0 t) = gt-from_Greater _ _ (at.1 there.0 t after there.1) in omega arith
    ]))
