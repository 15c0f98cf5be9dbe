-- A sum is something where one of its terms is; and a sum over what is read of each item.
use Rattle.std.proofs.Common.{◌≡◌, ◌↔◌, ℕ, ◌<◌, Bool, List, [], ◌∷◌, map, inl, inr, IsTrue, refl, sym, subst, arith}
use Rattle.std.specs.Prelude.{Contains, sum_by}
use Rattle.std.specs.List.{list_any}
use Rattle.std.proofs.lemmas.Bool.{cases_lt, or_cases, or_left, or_right, false≢true}
use Rattle.std.proofs.lemmas.List.Sums.{sum_by-cons}
use Rattle.taxi_base.proofs.ListLaws.{Contains-first, Contains-rest, Contains-cons_cases}

module _ {X : Type 0} (w : X → ℕ) where
  pub sum-some : (xs : List X) → 0 < sum_by w xs → (x : X) × Contains xs x × (0 < w x)
  sum-some [] some = absurd (omega arith)
  sum-some (x ∷ xs) some =
      elim (cases_lt 0 (w x)) [
        | inl here ↦ (x, Contains-first x xs, here)
        | inr none ↦ (let there = sum-some xs (omega (arith, some, none, sum_by-cons w x xs)) in (there.0, Contains-rest x there.0 xs there.1, there.2))
      ]

  pub some-sum : (xs : List X) (x : X) → Contains xs x → 0 < w x → 0 < sum_by w xs
  some-sum [] x there some = absurd (omega (arith, there.1))
  some-sum (y ∷ xs) x there some =
      elim (Contains-cons_cases y x xs there) [
        | inl e ↦ (let here : 0 < w y = subst (λ z. 0 < w z) (sym e) some in omega (arith, here, sum_by-cons w y xs))
        | inr rest ↦ (let more = some-sum xs x rest some in omega (arith, more, sum_by-cons w y xs))
      ]

  pub any-sum : (p : X → Bool) → ((x : X) → IsTrue (p x) ↔ (0 < w x)) → (xs : List X) → IsTrue (list_any p xs) ↔ (0 < sum_by w xs)
  any-sum p same [] = (λ e. absurd (false≢true e), λ some. absurd (omega (arith, some)))
  any-sum p same (x ∷ xs) = (
    λ any. elim (or_cases _ _ any) [
      | inl here ↦ (let h = (same x).0 here in omega (arith, h, sum_by-cons w x xs))
      | inr there ↦ (let t = (any-sum p same xs).0 there in omega (arith, t, sum_by-cons w x xs))
    ],
    λ some. elim (cases_lt 0 (w x)) [
      | inl here ↦ or_left _ _ ((same x).1 here)
      | inr none ↦ or_right _ _ ((any-sum p same xs).1 (omega (arith, some, none, sum_by-cons w x xs)))
    ],
  )

pub sum-mapped : {X Y : Type 0} (f : Y → ℕ) (g : X → Y) (xs : List X) → sum_by f (map g xs) ≡ sum_by (λ x. f (g x)) xs
sum-mapped f g [] = refl
sum-mapped f g (x ∷ xs) = omega (arith, sum_by-cons f (g x) (map g xs), sum_by-cons (λ x. f (g x)) x xs, sum-mapped f g xs)
