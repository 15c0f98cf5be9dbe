-- Where a text is cut.
use Rattle.std.proofs.Common.{◌≡◌, ◌==◌, ◌+◌, ◌-◌, ◌<◌, ◌≤◌, ◌∷◌, ◌∙◌, [], ℕ, List, Bool, true, false, cond, refl, sym, ap, take, drop, length, Some, None, arith}
use Rattle.std.proofs.lemmas.List.{take_all, length-drop}
use Rattle.std.proofs.lemmas.List.Splits.{slice_split_first, slice_split_none}
use Rattle.std.proofs.lemmas.List.Sums.{fails_before_first}
use Rattle.taxi_text.specs.Parts.{parts_of}
use Rattle.std.specs.List.{position, position_or_len, slice_split}
use borrow.Author.Tests.{ltb-true, ltb-false}

-- what a choice that gave something chose
chosen : (b : Bool) (n at : ℕ) → Some at ≡ cond b (Some n) None → (b ≡ true) × (at ≡ n)
chosen true n at e = (refl, cc)
chosen false n at e = cc

not_chosen : (b : Bool) (n : ℕ) → None ≡ cond b (Some n) None → b ≡ false
not_chosen true n e = cc
not_chosen false n e = refl

module _ (p : ℕ → Bool) (bytes : List ℕ) where
  pub found-lt : (at : ℕ) → Some at ≡ position p bytes → at < length bytes
  found-lt at e = let c = chosen _ _ at e in omega (arith, c.1, ltb-true _ _ c.0)

  -- the part before the byte that was found, and the parts after it
  pub split-found : (at : ℕ) → Some at ≡ position p bytes → slice_split p bytes ≡ take at bytes ∷ slice_split p (drop (at + 1) bytes)
  split-found at e =
      let c = chosen _ _ at e in
      slice_split_first p bytes 0 (ltb-true _ _ c.0) ∙ ap (λ (n : ℕ). take n bytes ∷ slice_split p (drop (n + 1) bytes)) (sym c.1)

  -- no such byte: the text is one part
  pub split-none : None ≡ position p bytes → slice_split p bytes ≡ bytes ∷ []
  split-none e =
      let long : length bytes ≤ position_or_len p bytes = omega (arith, ltb-false _ _ (not_chosen _ _ e)) in
      slice_split_none p bytes (λ k d l. fails_before_first p bytes k d (omega (arith, long)))

-- the same, as the slices of the text
pub part-found : (byte : ℕ) (bytes : List ℕ) (at : ℕ) → Some at ≡ position (λ b. b == byte) bytes
    → parts_of byte bytes ≡ take at bytes ∷ parts_of byte (take (length bytes - (at + 1)) (drop (at + 1) bytes))
part-found byte bytes at e =
    let all : take (length bytes - (at + 1)) (drop (at + 1) bytes) ≡ drop (at + 1) bytes = take_all (length bytes - (at + 1)) (drop (at + 1) bytes) (let l = length-drop (at + 1) bytes in omega (arith, l)) in
    split-found (λ b. b == byte) bytes at e ∙ ap (λ (t : List ℕ). take at bytes ∷ parts_of byte t) (sym all)
