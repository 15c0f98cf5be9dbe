-- What the rows of an array are, and what a row behind the others leaves.
use Rattle.std.proofs.Common.{◌≡◌, ℕ, zero, suc, ◌+◌, ◌-◌, ◌<◌, ◌≤◌, List, [], ◌∷◌, ◌++◌, length, get_or, take, drop, refl, ap, ◌∙◌, arith, Some}
use Rattle.std.specs.Prelude.{slice_get}
use Rattle.std.proofs.lemmas.List.{take_all, take-append-le, drop-append-le, drop_at, length-drop}
use Rattle.packed_rows.specs.Rows.{rows_from, CutUpTo}

pub length-rows_from : {T : Type 0} (start : ℕ) (ends : List ℕ) (values : List T) → length (rows_from start ends values) ≡ length ends
length-rows_from start [] values = refl
length-rows_from start (end ∷ ends) values = ap suc (length-rows_from end ends values)

pub CutUpTo-start : (start : ℕ) (ends : List ℕ) (n : ℕ) → CutUpTo start ends n → start ≤ n
CutUpTo-start start [] n cut = omega arith
CutUpTo-start start (end ∷ ends) n cut = let rest : end ≤ n = CutUpTo-start end ends n cut.1 in omega arith

pub CutUpTo-push : (start : ℕ) (ends : List ℕ) (n m : ℕ) → CutUpTo start ends n → n ≤ m → CutUpTo start (ends ++ m ∷ []) m
CutUpTo-push start [] n m cut more = (omega arith, refl)
CutUpTo-push start (end ∷ ends) n m cut more = (cut.0, CutUpTo-push end ends n m cut.1 more)

-- the bounds of a row
pub CutUpTo-row : (start : ℕ) (ends : List ℕ) (n at : ℕ) → CutUpTo start ends n → at < length ends → (get_or (start ∷ ends) at 0 ≤ get_or ends at 0) × (get_or ends at 0 ≤ n)
CutUpTo-row start [] n at cut low = absurd (omega arith)
CutUpTo-row start (end ∷ ends) n zero cut low = (cut.0, CutUpTo-start end ends n cut.1)
CutUpTo-row start (end ∷ ends) n (suc at) cut low = CutUpTo-row end ends n at cut.1 (omega arith)

pub slice_get-rows_from : {T : Type 0} (start : ℕ) (ends : List ℕ) (values : List T) (at : ℕ) → at < length ends
    → slice_get (rows_from start ends values) at ≡ Some (take (get_or ends at 0 - get_or (start ∷ ends) at 0) (drop (get_or (start ∷ ends) at 0) values))
slice_get-rows_from start [] values at low = absurd (omega arith)
slice_get-rows_from start (end ∷ ends) values zero low = refl
slice_get-rows_from start (end ∷ ends) values (suc at) low = slice_get-rows_from end ends values at (omega arith)

-- a row within the array does not see what comes behind
row-append : {T : Type 0} (start end : ℕ) (values more : List T) → start ≤ end → end ≤ length values
    → take (end - start) (drop start (values ++ more)) ≡ take (end - start) (drop start values)
row-append start end values more low high =
    let within : start ≤ length values = omega arith in
    let room : end - start ≤ length (drop start values) = omega (arith, length-drop start values) in
    ap (take (end - start)) (drop-append-le start values more within) ∙ take-append-le (end - start) (drop start values) more room

-- one more row behind the others
pub rows_from-push : {T : Type 0} (start : ℕ) (ends : List ℕ) (values row : List T) (last : ℕ) → CutUpTo start ends (length values) → last ≡ length values + length row
    → rows_from start (ends ++ last ∷ []) (values ++ row) ≡ rows_from start ends values ++ row ∷ []
rows_from-push start [] values row last cut at_end =
    let alone : drop start (values ++ row) ≡ row = drop_at values row start (omega arith) in
    let whole : take (last - start) row ≡ row = take_all _ row (omega arith) in
    ap (λ xs. xs ∷ []) (ap (take (last - start)) alone ∙ whole)
rows_from-push start (end ∷ ends) values row last cut at_end =
    let inside : end ≤ length values = CutUpTo-start end ends (length values) cut.1 in
    let first : take (end - start) (drop start (values ++ row)) ≡ take (end - start) (drop start values) = row-append start end values row cut.0 inside in
    ap (λ xs. xs ∷ rows_from end (ends ++ last ∷ []) (values ++ row)) first
    ∙ ap (λ rest. take (end - start) (drop start values) ∷ rest) (rows_from-push end ends values row last cut.1 at_end)
