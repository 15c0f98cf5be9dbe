-- Reading rows one after the other, as a loop does.
use Rattle.std.proofs.Common.{◌≡◌, ℕ, suc, ◌-◌, ◌+◌, ◌≤◌, ◌<◌, List, [], ◌∷◌, ◌++◌, Option, Some, None, refl, sym, ap, ◌∙◌, append_assoc, append-nil, arith}
use Rattle.std.specs.Prelude.{Err, option_map}
use Rattle.block_reader.specs.declared.refused.BlockRefused.{BlockRefused}
use Rattle.block_reader.specs.declared.refused.BlockRefused.TheVariants.{NotABlock, Memory}
use Rattle.block_reader.specs.Reading.{rows_at, IsRead}

module _ {X : Type 0} where
  -- what was read before, and what is still read
  abbrev pub with_front : List X → Option (List X × List ℕ) → Option (List X × List ℕ)
  with_front front read = option_map (λ x. (front ++ x.0, x.1)) read

  regroup : (front : List X) (row : X) (read : Option (List X × List ℕ)) → with_front front (option_map (λ x. (row ∷ x.0, x.1)) read) ≡ with_front (front ++ row ∷ []) read
  regroup front row (Some x) = ap (λ (rows : List X). Some (rows, x.1)) (sym (append_assoc front (row ∷ []) x.0))
  regroup front row None = refl

  module _ (row : List ℕ → Option (X × List ℕ)) (front : List X) (count i : ℕ) (bytes : List ℕ) (total : Option (List X × List ℕ)) (so_far : with_front front (rows_at row (count - i) bytes) ≡ total) where
    pub goes_on : i < count → (x : X) (after : List ℕ) → row bytes ≡ Some (x, after) → with_front (front ++ x ∷ []) (rows_at row (count - (i + 1)) after) ≡ total
    unfolding rows_at
    goes_on lt x after h =
        let k : count - i ≡ suc (count - (i + 1)) = omega arith in
        let one : with_front front (rows_at row (count - i) bytes) ≡ with_front (front ++ x ∷ []) (rows_at row (count - (i + 1)) after) = rw (k, h) (regroup front x (rows_at row (count - (i + 1)) after)) in
        sym one ∙ so_far

    pub fails : i < count → row bytes ≡ None → total ≡ None
    unfolding rows_at
    fails lt h =
        let k : count - i ≡ suc (count - (i + 1)) = omega arith in
        let one : with_front front (rows_at row (count - i) bytes) ≡ None = rw (k, h) refl in
        sym so_far ∙ one

    -- whatever refused a row refuses all of them
    pub refuses : {Y Z : Type 0} (view_row : Y → X × List ℕ) (view : Z → List X × List ℕ) (why : BlockRefused) → i < count → IsRead view_row (Err why) (row bytes) → IsRead view (Err why) total
    refuses view_row view NotABlock lt h = fails lt h
    refuses view_row view Memory lt h = tt

    pub is_done : count ≤ i → total ≡ Some (front, bytes)
    unfolding rows_at
    is_done le =
        let k : count - i ≡ 0 = omega arith in
        let one : with_front front (rows_at row (count - i) bytes) ≡ Some (front, bytes) = rw k (ap (λ (rows : List X). Some (rows, bytes)) (append-nil front)) in
        sym so_far ∙ one
