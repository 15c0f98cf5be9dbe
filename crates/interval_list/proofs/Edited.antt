-- Lists that are changed at one place: their length, their elements, and what `map` makes of them.
use Rattle.std.proofs.Common.{◌≡◌, ℕ, zero, suc, ◌+◌, ◌<◌, ◌≤◌, List, [], ◌∷◌, ◌++◌, length, map, take, drop, refl, sym, ap, ◌∙◌, arith}
use Rattle.interval_list.specs.Edits.{inserted, removed, replaced, item}
use denote.RawPtr.{Ptr, null_ptr}
use Rattle.interval_list.specs.declared.node.Node.{Node}
use Rattle.interval_list.specs.Cells.{Cell, IsAt, no_cell, places, windows_of, place_of, node_of, with_node}

module _ {X : Type 0} where
  pub length-inserted : (xs : List X) (i : ℕ) (x : X) → length (inserted xs i x) ≡ length xs + 1
  length-inserted xs zero x = omega arith
  length-inserted [] (suc i) x = refl
  length-inserted (y ∷ xs) (suc i) x = omega (arith, length-inserted xs i x)

  pub length-removed : (xs : List X) (i : ℕ) → i < length xs → length (removed xs i) + 1 ≡ length xs
  length-removed [] i within = absurd (omega arith)
  length-removed (y ∷ xs) zero within = omega arith
  length-removed (y ∷ xs) (suc i) within = omega (arith, length-removed xs i (omega arith))

  pub length-replaced : (xs : List X) (i : ℕ) (x : X) → length (replaced xs i x) ≡ length xs
  length-replaced [] i x = refl
  length-replaced (y ∷ xs) zero x = refl
  length-replaced (y ∷ xs) (suc i) x = ap suc (length-replaced xs i x)

  pub item-inserted : (d : X) (xs : List X) (i : ℕ) (x : X) → i ≤ length xs → item d (inserted xs i x) i ≡ x
  item-inserted d xs zero x within = refl
  item-inserted d [] (suc i) x within = absurd (omega arith)
  item-inserted d (y ∷ xs) (suc i) x within = item-inserted d xs i x (omega arith)

  pub item-inserted_before : (d : X) (xs : List X) (i k : ℕ) (x : X) → k < i → i ≤ length xs → item d (inserted xs i x) k ≡ item d xs k
  item-inserted_before d xs zero k x low within = absurd (omega arith)
  item-inserted_before d [] (suc i) k x low within = absurd (omega arith)
  item-inserted_before d (y ∷ xs) (suc i) zero x low within = refl
  item-inserted_before d (y ∷ xs) (suc i) (suc k) x low within = item-inserted_before d xs i k x (omega arith) (omega arith)

  pub item-inserted_after : (d : X) (xs : List X) (i k : ℕ) (x : X) → i ≤ k → item d (inserted xs i x) (suc k) ≡ item d xs k
  item-inserted_after d xs zero k x high = refl
  item-inserted_after d [] (suc i) k x high = refl
  item-inserted_after d (y ∷ xs) (suc i) zero x high = absurd (omega arith)
  item-inserted_after d (y ∷ xs) (suc i) (suc k) x high = item-inserted_after d xs i k x (omega arith)

  pub item-removed_before : (d : X) (xs : List X) (i k : ℕ) → k < i → item d (removed xs i) k ≡ item d xs k
  item-removed_before d [] i k low = refl
  item-removed_before d (y ∷ xs) zero k low = absurd (omega arith)
  item-removed_before d (y ∷ xs) (suc i) zero low = refl
  item-removed_before d (y ∷ xs) (suc i) (suc k) low = item-removed_before d xs i k (omega arith)

  pub item-removed_after : (d : X) (xs : List X) (i k : ℕ) → i ≤ k → item d (removed xs i) k ≡ item d xs (suc k)
  item-removed_after d [] i k high = refl
  item-removed_after d (y ∷ xs) zero k high = refl
  item-removed_after d (y ∷ xs) (suc i) zero high = absurd (omega arith)
  item-removed_after d (y ∷ xs) (suc i) (suc k) high = item-removed_after d xs i k (omega arith)

  pub replaced-same : (d : X) (xs : List X) (i : ℕ) → replaced xs i (item d xs i) ≡ xs
  replaced-same d [] i = refl
  replaced-same d (y ∷ xs) zero = refl
  replaced-same d (y ∷ xs) (suc i) = ap (λ zs. y ∷ zs) (replaced-same d xs i)

module _ {X Y : Type 0} (f : X → Y) where
  pub map-inserted : (xs : List X) (i : ℕ) (x : X) → map f (inserted xs i x) ≡ inserted (map f xs) i (f x)
  map-inserted xs zero x = refl
  map-inserted [] (suc i) x = refl
  map-inserted (y ∷ xs) (suc i) x = ap (λ zs. f y ∷ zs) (map-inserted xs i x)

  pub map-removed : (xs : List X) (i : ℕ) → map f (removed xs i) ≡ removed (map f xs) i
  map-removed [] i = refl
  map-removed (y ∷ xs) zero = refl
  map-removed (y ∷ xs) (suc i) = ap (λ zs. f y ∷ zs) (map-removed xs i)

  pub map-replaced : (xs : List X) (i : ℕ) (x : X) → map f (replaced xs i x) ≡ replaced (map f xs) i (f x)
  map-replaced [] i x = refl
  map-replaced (y ∷ xs) zero x = refl
  map-replaced (y ∷ xs) (suc i) x = ap (λ zs. f y ∷ zs) (map-replaced xs i x)

  pub item-map : (d : X) (xs : List X) (i : ℕ) → item (f d) (map f xs) i ≡ f (item d xs i)
  item-map d [] i = refl
  item-map d (y ∷ xs) zero = refl
  item-map d (y ∷ xs) (suc i) = item-map d xs i

module _ {X : Type 0} where
  pub drop-item : (d : X) (xs : List X) (i : ℕ) → i < length xs → drop i xs ≡ item d xs i ∷ drop (suc i) xs
  drop-item d [] i within = absurd (omega arith)
  drop-item d (y ∷ xs) zero within = refl
  drop-item d (y ∷ xs) (suc i) within = drop-item d xs i (omega arith)

  pub take-item : (d : X) (xs : List X) (i : ℕ) → i < length xs → take (suc i) xs ≡ take i xs ++ item d xs i ∷ []
  take-item d [] i within = absurd (omega arith)
  take-item d (y ∷ xs) zero within = refl
  take-item d (y ∷ xs) (suc i) within = ap (λ zs. y ∷ zs) (take-item d xs i (omega arith))

pub length-windows_of : (cs : List Cell) → length (windows_of cs) ≡ length cs
length-windows_of [] = refl
length-windows_of (c ∷ cs) = ap suc (length-windows_of cs)

pub windows_of-first : (cs : List Cell) → 0 < length cs → windows_of cs ≡ (node_of cs 0).window ∷ removed (windows_of cs) 0
windows_of-first [] some = absurd (omega arith)
windows_of-first (c ∷ cs) some = refl

pub places-first : (cs : List Cell) → 0 < length cs → places cs ≡ place_of cs 0 ∷ removed (places cs) 0
places-first [] some = absurd (omega arith)
places-first (c ∷ cs) some = refl

-- the node that came as number i, and another in its place
pub is_at-inserted : (cs : List Cell) (i : ℕ) (at : Ptr) (m : Node) → i ≤ length cs → IsAt (inserted cs i (at, m)) at i
is_at-inserted cs i at m within = (omega (arith, length-inserted cs i (at, m), within), sym (ap (λ (c : Cell). c.0) (item-inserted no_cell cs i (at, m) within)))

with_node-inserted : (cs : List Cell) (i : ℕ) (at : Ptr) (m n : Node) → i ≤ length cs → with_node (inserted cs i (at, m)) i n ≡ inserted cs i (at, n)
with_node-inserted cs zero at m n within = refl
with_node-inserted [] (suc i) at m n within = absurd (omega (arith, within))
with_node-inserted (c ∷ cs) (suc i) at m n within = ap (λ ds. c ∷ ds) (with_node-inserted cs i at m n (omega (arith, within)))

pub put_and_set : (cs ys zs : List Cell) (i : ℕ) (at : Ptr) (m n : Node) → i ≤ length cs → ys ≡ inserted cs i (at, m) → zs ≡ with_node ys i n → zs ≡ inserted cs i (at, n)
put_and_set cs ys zs i at m n within put wrote = wrote ∙ ap (λ ds. with_node ds i n) put ∙ with_node-inserted cs i at m n within

module _ {X : Type 0} where
  pub replaced-split : (xs : List X) (i : ℕ) (x : X) → i < length xs → replaced xs i x ≡ take i xs ++ x ∷ drop (suc i) xs
  replaced-split [] i x within = absurd (omega arith)
  replaced-split (y ∷ xs) zero x within = refl
  replaced-split (y ∷ xs) (suc i) x within = ap (λ zs. y ∷ zs) (replaced-split xs i x (omega arith))

  pub removed-split : (xs : List X) (i : ℕ) → i < length xs → removed xs i ≡ take i xs ++ drop (suc i) xs
  removed-split [] i within = absurd (omega arith)
  removed-split (y ∷ xs) zero within = refl
  removed-split (y ∷ xs) (suc i) within = ap (λ zs. y ∷ zs) (removed-split xs i (omega arith))

  pub inserted-split : (xs : List X) (i : ℕ) (x : X) → i ≤ length xs → inserted xs i x ≡ take i xs ++ x ∷ drop i xs
  inserted-split xs zero x within = refl
  inserted-split [] (suc i) x within = absurd (omega arith)
  inserted-split (y ∷ xs) (suc i) x within = ap (λ zs. y ∷ zs) (inserted-split xs i x (omega arith))

  pub split-split : (xs : List X) (i : ℕ) (x y : X) → i < length xs → inserted (replaced xs i x) (suc i) y ≡ take i xs ++ x ∷ y ∷ drop (suc i) xs
  split-split [] i x y within = absurd (omega arith)
  split-split (z ∷ xs) zero x y within = refl
  split-split (z ∷ xs) (suc i) x y within = ap (λ zs. z ∷ zs) (split-split xs i x y (omega arith))

  -- what stands before place i, and behind it, once pieces stand there
  pub take-pieces : (xs ps rest : List X) (i : ℕ) → i ≤ length xs → take (i + length ps) (take i xs ++ (ps ++ rest)) ≡ take i xs ++ ps
  take-pieces xs [] rest zero within = refl
  take-pieces xs (p ∷ ps) rest zero within = let e : 0 + length (p ∷ ps) ≡ suc (0 + length ps) = omega arith in rw e (ap (λ zs. p ∷ zs) (take-pieces xs ps rest zero (omega arith)))
  take-pieces [] ps rest (suc i) within = absurd (omega arith)
  take-pieces (x ∷ xs) ps rest (suc i) within = let e : suc i + length ps ≡ suc (i + length ps) = omega arith in rw e (ap (λ zs. x ∷ zs) (take-pieces xs ps rest i (omega arith)))

  pub drop-pieces : (xs ps rest : List X) (i : ℕ) → i ≤ length xs → drop (i + length ps) (take i xs ++ (ps ++ rest)) ≡ rest
  drop-pieces xs [] rest zero within = refl
  drop-pieces xs (p ∷ ps) rest zero within = let e : 0 + length (p ∷ ps) ≡ suc (0 + length ps) = omega arith in rw e (drop-pieces xs ps rest zero (omega arith))
  drop-pieces [] ps rest (suc i) within = absurd (omega arith)
  drop-pieces (x ∷ xs) ps rest (suc i) within = let e : suc i + length ps ≡ suc (i + length ps) = omega arith in rw e (drop-pieces xs ps rest i (omega arith))

-- a place by the places alone
pub place_of-places : (cs : List Cell) (k : ℕ) → place_of cs k ≡ item null_ptr (places cs) k
place_of-places [] k = refl
place_of-places (c ∷ cs) zero = refl
place_of-places (c ∷ cs) (suc k) = place_of-places cs k

module _ {X : Type 0} where
  pub take-removed : (xs : List X) (i : ℕ) → take i (removed xs i) ≡ take i xs
  take-removed [] i = refl
  take-removed (y ∷ xs) zero = refl
  take-removed (y ∷ xs) (suc i) = ap (λ zs. y ∷ zs) (take-removed xs i)

  pub drop-removed : (xs : List X) (i : ℕ) → i < length xs → drop i (removed xs i) ≡ drop (suc i) xs
  drop-removed [] i within = absurd (omega arith)
  drop-removed (y ∷ xs) zero within = refl
  drop-removed (y ∷ xs) (suc i) within = drop-removed xs i (omega arith)

  pub drop-end : (xs : List X) (i : ℕ) → length xs ≤ i → drop i xs ≡ []
  drop-end [] zero past = refl
  drop-end [] (suc i) past = refl
  drop-end (y ∷ xs) zero past = absurd (omega arith)
  drop-end (y ∷ xs) (suc i) past = drop-end xs i (omega arith)

  pub take_drop : (xs : List X) (i : ℕ) → take i xs ++ drop i xs ≡ xs
  take_drop xs zero = refl
  take_drop [] (suc i) = refl
  take_drop (y ∷ xs) (suc i) = ap (λ zs. y ∷ zs) (take_drop xs i)

  pub append-again : (xs ys zs : List X) → (xs ++ ys) ++ zs ≡ xs ++ (ys ++ zs)
  append-again [] ys zs = refl
  append-again (x ∷ xs) ys zs = ap (λ us. x ∷ us) (append-again xs ys zs)

  pub append-none : (xs : List X) → xs ++ [] ≡ xs
  append-none [] = refl
  append-none (x ∷ xs) = ap (λ us. x ∷ us) (append-none xs)

module _ {X : Type 0} where
  pub length-take_within : (xs : List X) (i : ℕ) → i ≤ length xs → length (take i xs) ≡ i
  length-take_within xs zero within = refl
  length-take_within [] (suc i) within = absurd (omega arith)
  length-take_within (y ∷ xs) (suc i) within = ap suc (length-take_within xs i (omega arith))
