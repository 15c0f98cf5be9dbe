-- Loops that ask each item, and stop at the first that decides.
use Rattle.std.proofs.Common.{◌≡◌, ℕ, ◌<◌, ◌≤◌, Bool, true, false, List, [], ◌∷◌, length, get_or, take, Contains, IsTrue, inl, inr, subst, arith}
use Rattle.std.specs.List.{list_any, list_all}
use Rattle.std.proofs.lemmas.Bool.{and_parts}
use Rattle.std.proofs.lemmas.List.{take_all}
use Rattle.std.proofs.lemmas.List.Elements.{Contains-get_or}
use Rattle.taxi_base.proofs.ListLaws.{list_any-member, Contains-cons_cases}

module _ {X : Type 0} (test : X → Bool) (xs : List X) where
  pub one-here : (i : ℕ) (d : X) → i < length xs → test (get_or xs i d) ≡ true → list_any test xs ≡ true
  one-here i d low here = list_any-member test xs (get_or xs i d) (Contains-get_or xs i d low) here

  pub none-all : (i : ℕ) → length xs ≤ i → list_any test (take i xs) ≡ false → list_any test xs ≡ false
  none-all i past so_far = subst (λ ys. list_any test ys ≡ false) (take_all i xs past) so_far

pub all-of : {X : Type 0} (test : X → Bool) (xs : List X) (x : X) → Contains xs x → IsTrue (list_all test xs) → IsTrue (test x)
all-of test [] x there all = absurd (omega (arith, there.1))
all-of test (y ∷ xs) x there all = elim (Contains-cons_cases y x xs there) [
  | inl same ↦ subst (λ z. IsTrue (test z)) same (and_parts (test y) (list_all test xs) all).0
  | inr rest ↦ all-of test xs x rest (and_parts (test y) (list_all test xs) all).1
]
