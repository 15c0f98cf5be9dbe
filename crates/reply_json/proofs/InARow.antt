-- Pieces that are written one behind the other.
use Rattle.std.proofs.Common.{◌≡◌, ◌++◌, ◌∷◌, ◌∙◌, [], ℕ, List, refl, sym, ap, append_assoc, append-nil}

-- what stands behind a text once some pieces are written
abbrev pub after : List ℕ → List (List ℕ) → List ℕ
after old [] = old
after old (piece ∷ pieces) = after (old ++ piece) pieces

-- the pieces as one text
abbrev pub in_a_row : List (List ℕ) → List ℕ
in_a_row [] = []
in_a_row (piece ∷ []) = piece
in_a_row (piece ∷ next ∷ pieces) = piece ++ in_a_row (next ∷ pieces)

pub in_a_row-after : (old : List ℕ) (pieces : List (List ℕ)) → after old pieces ≡ old ++ in_a_row pieces
in_a_row-after old [] = sym (append-nil old)
in_a_row-after old (piece ∷ []) = refl
in_a_row-after old (piece ∷ next ∷ pieces) = in_a_row-after (old ++ piece) (next ∷ pieces) ∙ append_assoc old piece (in_a_row (next ∷ pieces))

-- a text that begins elsewhere
after-from : (old start : List ℕ) (pieces : List (List ℕ)) → old ++ after start pieces ≡ after (old ++ start) pieces
after-from old start [] = refl
after-from old start (piece ∷ pieces) = after-from old (start ++ piece) pieces ∙ ap (λ (t : List ℕ). after t pieces) (sym (append_assoc old start piece))

-- pieces that are put together first, and then written
pub part-after : (old text new : List ℕ) (pieces : List (List ℕ)) → text ≡ after [] pieces → new ≡ old ++ text → new ≡ after old pieces
part-after old text new pieces is wrote =
    wrote ∙ ap (λ (t : List ℕ). old ++ t) is ∙ after-from old [] pieces ∙ ap (λ (t : List ℕ). after t pieces) (append-nil old)

-- a short text as it grows
pub grown-three : (t0 t1 t2 t3 q1 q2 q3 p1 p2 p3 : List ℕ) → t0 ≡ [] → t1 ≡ t0 ++ q1 → t2 ≡ t1 ++ q2 → t3 ≡ t2 ++ q3 → q1 ≡ p1 → q2 ≡ p2 → q3 ≡ p3
    → t3 ≡ after [] (p1 ∷ p2 ∷ p3 ∷ [])
grown-three t0 t1 t2 t3 q1 q2 q3 p1 p2 p3 e0 e1 e2 e3 d1 d2 d3 = rw (e3, e2, e1, e0, d1, d2, d3) refl

pub grown-four : (t0 t1 t2 t3 t4 q1 q2 q3 q4 p1 p2 p3 p4 : List ℕ) → t0 ≡ [] → t1 ≡ t0 ++ q1 → t2 ≡ t1 ++ q2 → t3 ≡ t2 ++ q3 → t4 ≡ t3 ++ q4 → q1 ≡ p1 → q2 ≡ p2 → q3 ≡ p3 → q4 ≡ p4
    → t4 ≡ after [] (p1 ∷ p2 ∷ p3 ∷ p4 ∷ [])
grown-four t0 t1 t2 t3 t4 q1 q2 q3 q4 p1 p2 p3 p4 e0 e1 e2 e3 e4 d1 d2 d3 d4 = rw (e4, e3, e2, e1, e0, d1, d2, d3, d4) refl

pub grown-five : (t0 t1 t2 t3 t4 t5 q1 q2 q3 q4 q5 p1 p2 p3 p4 p5 : List ℕ) → t0 ≡ [] → t1 ≡ t0 ++ q1 → t2 ≡ t1 ++ q2 → t3 ≡ t2 ++ q3 → t4 ≡ t3 ++ q4 → t5 ≡ t4 ++ q5
    → q1 ≡ p1 → q2 ≡ p2 → q3 ≡ p3 → q4 ≡ p4 → q5 ≡ p5 → t5 ≡ after [] (p1 ∷ p2 ∷ p3 ∷ p4 ∷ p5 ∷ [])
grown-five t0 t1 t2 t3 t4 t5 q1 q2 q3 q4 q5 p1 p2 p3 p4 p5 e0 e1 e2 e3 e4 e5 d1 d2 d3 d4 d5 = rw (e5, e4, e3, e2, e1, e0, d1, d2, d3, d4, d5) refl
