-- A text that grows by lines.
use Rattle.std.proofs.Common.{◌≡◌, ◌∙◌, ◌+◌, ℕ, zero, suc, List, [], ◌∷◌, ◌++◌, refl, sym, ap, append_assoc, append-nil, add-one, arith}
use Rattle.std.specs.Prelude.{flat_map}
use Rattle.std.specs.List.{range_with_len}
use Rattle.std.proofs.lemmas.List.Concat.{flat_map-append}

-- one piece more
pub piece-more : {X : Type 0} (text_of : X → List ℕ) (before text after : List ℕ) (xs : List X) (x : X) → text ≡ before ++ flat_map text_of xs → after ≡ text ++ text_of x
    → after ≡ before ++ flat_map text_of (xs ++ x ∷ [])
piece-more text_of before text after xs x so_far added =
    added ∙ ap (λ (t : List ℕ). t ++ text_of x) so_far ∙ append_assoc before (flat_map text_of xs) (text_of x)
    ∙ ap (λ (own : List ℕ). before ++ own) (sym (flat_map-append text_of xs (x ∷ []) ∙ ap (λ (own : List ℕ). flat_map text_of xs ++ own) (append-nil (text_of x))))

-- ---- by rising numbers

range-suc : (a n : ℕ) → range_with_len a (suc n) ≡ range_with_len a n ++ (a + n) ∷ []
range-suc a zero = let none : a + 0 ≡ a = omega arith in rw none refl
range-suc a (suc n) =
    let same : a + 1 + n ≡ a + suc n = omega arith in
    ap (λ (ns : List ℕ). a ∷ ns) (range-suc (a + 1) n) ∙ rw same refl

pub numbers-more : (text_of : ℕ → List ℕ) (before text after : List ℕ) (n : ℕ) → text ≡ before ++ flat_map text_of (range_with_len 0 n) → after ≡ text ++ text_of n
    → after ≡ before ++ flat_map text_of (range_with_len 0 (n + 1))
numbers-more text_of before text after n so_far added =
    let same : 0 + n ≡ n = omega arith in
    let range : range_with_len 0 n ++ n ∷ [] ≡ range_with_len 0 (n + 1) = rw add-one (rw (range-suc 0 n) (rw same refl)) in
    piece-more text_of before text after (range_with_len 0 n) n so_far added ∙ ap (λ (ns : List ℕ). before ++ flat_map text_of ns) range
