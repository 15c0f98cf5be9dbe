-- Two neighbours exchanged: what stays, and that the exchange of two elements is the same.
use Rattle.std.proofs.Common.{◌≡◌, ◌∙◌, ℕ, ◌+◌, ◌<◌, zero, suc, List, [], ◌∷◌, ◌++◌, length, take, drop, get_or, set, refl, ap, arith}
use Rattle.std.specs.Prelude.{All, swap}
use Rattle.std.proofs.lemmas.List.{take-append-drop}
use Rattle.std.proofs.lemmas.List.Elements.{All-head, All-tail, All-cons}
use Rattle.replies.specs.Batches.{exchanged}

module _ {X : Type 0} where
  pub exchanged-length : (k : ℕ) (xs : List X) → length (exchanged k xs) ≡ length xs
  exchanged-length zero [] = refl
  exchanged-length zero (a ∷ []) = refl
  exchanged-length zero (a ∷ b ∷ later) = refl
  exchanged-length (suc k) [] = refl
  exchanged-length (suc k) (a ∷ later) = ap (λ (n : ℕ). suc n) (exchanged-length k later)

  -- twice gives what there was
  pub exchanged-twice : (k : ℕ) (xs : List X) → exchanged k (exchanged k xs) ≡ xs
  exchanged-twice zero [] = refl
  exchanged-twice zero (a ∷ []) = refl
  exchanged-twice zero (a ∷ b ∷ later) = refl
  exchanged-twice (suc k) [] = refl
  exchanged-twice (suc k) (a ∷ later) = ap (λ (xs : List X). a ∷ xs) (exchanged-twice k later)

  -- what stands before the place stays
  pub exchanged-before : (k : ℕ) (xs : List X) → take k (exchanged k xs) ≡ take k xs
  exchanged-before zero xs = refl
  exchanged-before (suc k) [] = refl
  exchanged-before (suc k) (a ∷ later) = ap (λ (xs : List X). a ∷ xs) (exchanged-before k later)

  pub exchanged-All : (P : X → Type 0) (k : ℕ) (xs : List X) → All P xs → All P (exchanged k xs)
  exchanged-All P zero [] all = all
  exchanged-All P zero (a ∷ []) all = all
  exchanged-All P zero (a ∷ b ∷ later) all =
      let rest : All P (b ∷ later) = All-tail P a (b ∷ later) all in
      All-cons P b (a ∷ later) (All-head P b later rest) (All-cons P a later (All-head P a (b ∷ later) all) (All-tail P b later rest))
  exchanged-All P (suc k) [] all = all
  exchanged-All P (suc k) (a ∷ later) all = All-cons P a (exchanged k later) (All-head P a later all) (exchanged-All P k later (All-tail P a later all))

  set-exchanged : (k : ℕ) (xs : List X) (d : X) → suc k < length xs → set (set xs k (get_or xs (suc k) d)) (suc k) (get_or xs k d) ≡ exchanged k xs
  set-exchanged k [] d low = absurd (omega (arith, low))
  set-exchanged zero (a ∷ []) d low = absurd (omega (arith, low))
  set-exchanged zero (a ∷ b ∷ later) d low = refl
  set-exchanged (suc k) (a ∷ later) d low = ap (λ (xs : List X). a ∷ xs) (set-exchanged k later d (omega (arith, low)))

  pub swap-exchanged : (k : ℕ) (xs : List X) → k + 1 < length xs → swap xs k (k + 1) ≡ exchanged k xs
  swap-exchanged k [] low = absurd (omega (arith, low))
  swap-exchanged k (d ∷ ys) low =
      let next : k + 1 ≡ suc k = omega arith in
      rw next (set-exchanged k (d ∷ ys) d (omega (arith, low)))

  -- it is what stands before the place, and what is exchanged from there on
  pub exchanged-parts : (k : ℕ) (xs : List X) → take k xs ++ drop k (exchanged k xs) ≡ exchanged k xs
  exchanged-parts k xs = rw (← exchanged-before k xs) (take-append-drop k (exchanged k xs))

  pub swapped-back : (k : ℕ) (xs ys zs : List X) → k + 1 < length xs → ys ≡ exchanged k xs → zs ≡ swap ys k (k + 1) → zs ≡ xs
  swapped-back k xs ys zs low there back =
      back ∙ ap (λ (us : List X). swap us k (k + 1)) there ∙ swap-exchanged k (exchanged k xs) (omega (arith, low, exchanged-length k xs)) ∙ exchanged-twice k xs
