-- The rows of what is found over numbered cells are those of their places.
use Rattle.std.proofs.Common.{◌≡◌, ℕ, suc, ◌≤◌, List, [], ◌∷◌, ◌++◌, length, map, append_assoc, Option, Some, None, refl, sym, ◌∙◌, ap, arith}
use Rattle.std.proofs.Math.Seq.{get_or-append_seam}
use Rattle.std.proofs.lemmas.List.{length-append}
use Rattle.taxi_base.specs.declared.rows.LabelRow.{LabelRow}
use Rattle.label_search.specs.declared.values.CellValue.{CellValue}
use Rattle.label_search.specs.Values.{rows_from}
use Rattle.walk_labels.specs.Places.{Place, no_place, place_at, label_at}
use Rattle.walk_labels.specs.Tables.{rows_of}

abbrev pub row_at : List Place → CellValue → LabelRow
row_at places row = label_at (place_at places row.cell) row.value

rows_behind : (sooner places : List Place) (known : List (Option ℕ)) (n : ℕ) → length sooner ≡ n → length known ≤ length places
    → map (row_at (sooner ++ places)) (rows_from n known) ≡ rows_of (λ o. o) places known
rows_behind sooner [] [] n at few = refl
rows_behind sooner (x ∷ places) [] n at few = refl
rows_behind sooner [] (o ∷ known) n at few = absurd (omega arith)
rows_behind sooner (x ∷ places) (None ∷ known) n at few =
    ap (λ list. map (row_at list) (rows_from (suc n) known)) (sym (append_assoc sooner (x ∷ []) places))
    ∙ rows_behind (sooner ++ x ∷ []) places known (suc n) (omega (arith, at, length-append sooner (x ∷ []))) (omega arith)
rows_behind sooner (x ∷ places) (Some v ∷ known) n at few =
    let here : place_at (sooner ++ x ∷ places) n ≡ x = ap (place_at (sooner ++ x ∷ places)) (sym at) ∙ get_or-append_seam sooner x places no_place in
    let rest : map (row_at (sooner ++ x ∷ places)) (rows_from (suc n) known) ≡ rows_of (λ o. o) places known =
    ap (λ list. map (row_at list) (rows_from (suc n) known)) (sym (append_assoc sooner (x ∷ []) places))
    ∙ rows_behind (sooner ++ x ∷ []) places known (suc n) (omega (arith, at, length-append sooner (x ∷ []))) (omega arith) in
    λ i. label_at (here i) v ∷ rest i

-- the rows of the values over numbers are those of the places
pub rows_placed : (places : List Place) (known : List (Option ℕ)) → length known ≤ length places → map (row_at places) (rows_from 0 known) ≡ rows_of (λ o. o) places known
rows_placed places known few = rows_behind [] places known 0 refl few
