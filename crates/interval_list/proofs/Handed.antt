-- No node is lost where one goes from one chain to the other, or is handed out.
use Rattle.std.proofs.Common.{◌≡◌, ℕ, zero, suc, ◌<◌, ◌≤◌, List, [], ◌∷◌, ◌++◌, length, drop, Result, Ok, Err, OnOk, OnErr, IsPermutation, refl, sym, ap, ◌∙◌, subst, arith}
use Rattle.std.proofs.lemmas.List.Sorted.{IsPermutation-refl, IsPermutation-sym, IsPermutation-trans, IsPermutation-cons, IsPermutation-middle, IsPermutation-append_left, IsPermutation-append_right, IsPermutation-append_comm, length_permutation}
use denote.RawPtr.{Ptr, null_ptr}
use Rattle.interval_list.specs.Edits.{inserted, removed, item}
use Rattle.interval_list.specs.Cells.{Cell, SameNodes, places, place_of}
use Rattle.interval_list.specs.Blocks.{Block, Stocked, IsNewest, AreAll, AreOut, block_size, blocks_at, bodies}
use Rattle.interval_list.proofs.Edited.{append-none, place_of-places}
use Rattle.interval_list.proofs.Spots.{length-places}

-- an element behind the first is brought in front of it
swapped : {X : Type 0} (x y : X) (xs ys : List X) → IsPermutation xs (y ∷ ys) → IsPermutation (x ∷ xs) (y ∷ x ∷ ys)
swapped x y xs ys s = IsPermutation-trans _ _ _ (IsPermutation-cons x xs (y ∷ ys) s) (IsPermutation-middle (x ∷ []) y ys)

inserted-front : {X : Type 0} (xs : List X) (i : ℕ) (x : X) → IsPermutation (inserted xs i x) (x ∷ xs)
inserted-front xs zero x = IsPermutation-refl (x ∷ xs)
inserted-front [] (suc i) x = IsPermutation-refl (x ∷ [])
inserted-front (y ∷ xs) (suc i) x = swapped y x (inserted xs i x) xs (inserted-front xs i x)

removed-front : {X : Type 0} (d : X) (xs : List X) (i : ℕ) → i < length xs → IsPermutation xs (item d xs i ∷ removed xs i)
removed-front d [] i within = absurd (omega arith)
removed-front d (y ∷ xs) zero within = IsPermutation-refl (y ∷ xs)
removed-front d (y ∷ xs) (suc i) within = swapped y (item d xs i) xs (removed xs i) (removed-front d xs i (omega arith))

-- ---- from one chain to the other

module _ (w s : List Cell) where
  pub same-refl : SameNodes w s w s
  same-refl = IsPermutation-refl (places w ++ places s)

  pub same-trans : (v r w' s' : List Cell) → SameNodes w s v r → SameNodes v r w' s' → SameNodes w s w' s'
  same-trans v r w' s' h k = IsPermutation-trans (places w ++ places s) (places v ++ places r) (places w' ++ places s') h k

  pub same-set : (w' : List Cell) → places w' ≡ places w → SameNodes w s w' s
  same-set w' e = subst (λ ps. IsPermutation (places w ++ places s) (ps ++ places s)) (sym e) same-refl

  pub same-put : (w' s' : List Cell) (i : ℕ) (p q : Ptr) → places s ≡ p ∷ places s' → q ≡ p → places w' ≡ inserted (places w) i q → SameNodes w s w' s'
  same-put w' s' i p q popped is put =
      let ws = places w in let ss = places s' in
      let middle : IsPermutation (ws ++ p ∷ ss) (p ∷ ws ++ ss) = IsPermutation-middle ws p ss in
      let back : IsPermutation (p ∷ ws ++ ss) (inserted ws i p ++ ss) = IsPermutation-append_left ss (p ∷ ws) (inserted ws i p) (IsPermutation-sym (inserted ws i p) (p ∷ ws) (inserted-front ws i p)) in
      let at : places w' ≡ inserted ws i p = put ∙ ap (inserted ws i) is in
      subst (λ ps. IsPermutation (ws ++ ps) (places w' ++ ss)) (sym popped) (subst (λ ps. IsPermutation (ws ++ p ∷ ss) (ps ++ ss)) (sym at) (IsPermutation-trans _ _ _ middle back))

  pub same-take : (w' s' : List Cell) (i : ℕ) (p q : Ptr) → i < length w → p ≡ place_of w i → q ≡ p → places w' ≡ removed (places w) i → places s' ≡ q ∷ places s → SameNodes w s w' s'
  same-take w' s' i p q within at is took pushed =
      let ws = places w in let ss = places s in let x = item null_ptr ws i in
      let within' : i < length ws = omega (arith, within, length-places w) in
      let front : IsPermutation (ws ++ ss) (x ∷ removed ws i ++ ss) = IsPermutation-append_left ss ws (x ∷ removed ws i) (removed-front null_ptr ws i within') in
      let back : IsPermutation (x ∷ removed ws i ++ ss) (removed ws i ++ x ∷ ss) = IsPermutation-sym _ _ (IsPermutation-middle (removed ws i) x ss) in
      let here : q ≡ x = is ∙ at ∙ place_of-places w i in
      let after : places w' ++ places s' ≡ removed ws i ++ x ∷ ss = (λ k. took k ++ pushed k) ∙ ap (λ r. removed ws i ++ r ∷ ss) here in
      subst (IsPermutation (ws ++ ss)) (sym after) (IsPermutation-trans _ _ _ front back)

-- ---- those that are handed out

module _ (st : Stocked) where
  pub out-same : (w s w' s' : List Cell) → SameNodes w s w' s' → AreOut (places w ++ places s) st → AreOut (places w' ++ places s') st
  out-same w s w' s' same out = IsPermutation-trans _ _ _ (IsPermutation-append_left st.blank _ _ (IsPermutation-sym _ _ same)) out

  -- one that is drawn is the first of the spares
  pub out-drawn : (w s s' : List Cell) (p : Ptr) → places s' ≡ p ∷ places s → AreOut (p ∷ places w ++ places s) st → AreOut (places w ++ places s') st
  out-drawn w s s' p drawn out =
      subst (λ ps. AreOut (places w ++ ps) st) (sym drawn) (IsPermutation-trans _ _ _ (IsPermutation-append_left st.blank _ _ (IsPermutation-middle (places w) p (places s))) out)

-- the first blank node is handed out
pub out-next : (used blank made : List Ptr) (p : Ptr) → AreOut used (record { made = made; blank = p ∷ blank }) → AreOut (p ∷ used) (record { made = made; blank = blank })
out-next used blank made p out = IsPermutation-trans _ _ _ (IsPermutation-sym _ _ (IsPermutation-middle used p blank)) out

-- a block is made where no node is blank
pub out-more : (used blank made : List Ptr) → AreOut used (record { made = made; blank = [] }) → AreOut used (record { made = blank ++ made; blank = blank })
out-more used blank made out =
    let out' : IsPermutation used made = subst (λ ps. IsPermutation ps made) (append-none used) out in
    IsPermutation-trans _ _ _ (IsPermutation-append_comm used blank) (IsPermutation-append_right blank used made out')

pub out-tried : {A E : Type 0} (used : List Ptr) (old new : Stocked) (r : Result A E) → old.blank ≡ [] → OnOk r ((0 < length new.blank) × (new.made ≡ new.blank ++ old.made)) → OnErr r (new ≡ old)
    → AreOut used old → AreOut used new
out-tried used old new (Ok x) none made same out =
    let out' : AreOut used (record { made = old.made; blank = [] }) = subst (λ ps. IsPermutation (used ++ ps) old.made) none out in
    subst (IsPermutation (used ++ new.blank)) (sym made.1) (out-more used new.blank old.made out')
out-tried used old new (Err e) none made same out = subst (AreOut used) (sym same) out

-- ---- the newest block

block_size-some : (older : ℕ) → 0 < block_size older
block_size-some zero = omega arith
block_size-some (suc zero) = omega arith
block_size-some (suc (suc older)) = omega arith

pub newest : (blocks : List Block) (heads older nodes : List Cell) (p : Ptr) (n : ℕ) → AreAll blocks heads nodes → places heads ≡ p ∷ places older → block_size (length older) ≡ n
    → (0 < n) × IsNewest (p, n) blocks nodes
newest blocks heads older nodes p n all first size =
    let is : blocks ≡ (p, n) ∷ blocks_at (places older) = all.0 ∙ ap blocks_at first ∙ ap (λ k. (p, k) ∷ blocks_at (places older)) (ap block_size (length-places older) ∙ size) in
    (subst (λ k. 0 < k) size (block_size-some (length older)), (is ∙ ap (λ bs. (p, n) ∷ bs) (sym (ap (drop 1) is)), all.1))

pub none-left : (blocks : List Block) (heads nodes : List Cell) → AreAll blocks heads nodes → length heads ≤ 0 → nodes ≡ []
none-left blocks [] [] all none = refl
none-left blocks [] (c ∷ nodes) all none = absurd (omega (arith, ap (λ bs. length (bodies bs)) all.0, length_permutation (places (c ∷ nodes)) (bodies blocks) all.1, length-places (c ∷ nodes)))
none-left blocks (c ∷ heads) nodes all none = absurd (omega (arith, none))
