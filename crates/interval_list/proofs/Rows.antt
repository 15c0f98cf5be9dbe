-- A block in memory is its nodes side by side. Assumes `Logic`.
use Rattle.std.proofs.Common.{◌≡◌, ℕ, zero, suc, ◌-◌, ◌<◌, List, [], ◌∷◌, ◌++◌, map, length, get_or, set, take, drop, swap, IsPermutation, refl, sym, ap, ◌∙◌, arith}
use Rattle.std.proofs.lemmas.List.{length-map, map-set, get_or-map}
use Rattle.std.proofs.lemmas.List.Sorted.{IsPermutation-refl, IsPermutation-trans, IsPermutation-swap, IsPermutation-keeps}
use seplogic.Ra.Ura.{Ura}
use base.Fraction.{full_share}
use base.Logic.{SProp, ent, id⊢}
use base.Fml.{Fml}
use types.Logic.{Logic, sem}
use types.Kit.{‵, ◌$◌, ◌∵◌, !, qed, move, use1, fsplit, fjoin, done}
use types.Share.{parts}
use denote.Memory.{mem, shares}
use denote.RawPtr.{Ptr, block_ptr, null_ptr, ◌+ₚ◌}
use Rattle.interval_list.specs.contracts.node.Node as node
use Rattle.interval_list.specs.declared.node.Node.{Node}
use Rattle.interval_list.specs.Cells.{Cell, places, place_of}
use Rattle.interval_list.specs.Edits.{removed}
use Rattle.interval_list.specs.Blocks.{node_size, row_places, body}
use Rattle.interval_list.specs.Ownership.{nodes_own}

-- nodes side by side from p on
abbrev pub row_cells : Ptr → List Node → List Cell
row_cells p [] = []
row_cells p (n ∷ ns) = (p, n) ∷ row_cells (p +ₚ node_size) ns

pub places-row_cells : (p : Ptr) (ns : List Node) → places (row_cells p ns) ≡ row_places p (length ns)
places-row_cells p [] = refl
places-row_cells p (n ∷ ns) = ap (λ ps. p ∷ ps) (places-row_cells (p +ₚ node_size) ns)

pub length-row_places : (p : Ptr) (n : ℕ) → length (row_places p n) ≡ n
length-row_places p zero = refl
length-row_places p (suc n) = ap suc (length-row_places (p +ₚ node_size) n)

pub row_places-more : (p : Ptr) (n : ℕ) → 0 < n → row_places p n ≡ p ∷ row_places (p +ₚ node_size) (n - 1)
row_places-more p n some = let more : n ≡ suc (n - 1) = omega (arith, some) in ap (row_places p) more

pub row-first : (p : Ptr) (ns : List Node) → 0 < length ns → (0 < length (row_cells p ns)) × (place_of (row_cells p ns) 0 ≡ p)
row-first p [] some = absurd (omega arith)
row-first p (n ∷ ns) some = (omega arith, refl)

pub row-body : (p : Ptr) (ns : List Node) (n : ℕ) → length ns ≡ n → places (removed (row_cells p ns) 0) ≡ body (p, n)
row-body p [] n long = ap (λ k. row_places (p +ₚ node_size) (k - 1)) long
row-body p (m ∷ ns) n long =
    let fewer : length ns ≡ n - 1 = omega (arith, long) in
    places-row_cells (p +ₚ node_size) ns ∙ ap (λ k. row_places (p +ₚ node_size) k) fewer

-- nodes at places side by side are such a row
pub row-again : (p : Ptr) (n : ℕ) (cs : List Cell) → places cs ≡ row_places p n → row_cells p (map (λ c. c.1) cs) ≡ cs
row-again p zero [] e = refl
row-again p zero (c ∷ cs) e = absurd (omega (arith, ap length e))
row-again p (suc n) [] e = absurd (omega (arith, ap length e))
row-again p (suc n) (c ∷ cs) e =
    let here : c.0 ≡ p = ap (λ ps. get_or ps 0 null_ptr) e in
    let rest = row-again (p +ₚ node_size) n cs (ap (drop 1) e) in
    λ k. (sym here k, c.1) ∷ rest k

pub length-row : (p : Ptr) (n : ℕ) (cs : List Cell) → places cs ≡ row_places p n → length cs ≡ n
length-row p zero [] e = refl
length-row p zero (c ∷ cs) e = absurd (omega (arith, ap length e))
length-row p (suc n) [] e = absurd (omega (arith, ap length e))
length-row p (suc n) (c ∷ cs) e = ap suc (length-row (p +ₚ node_size) n cs (ap (drop 1) e))

-- ---- nodes in the order of their places

places-swap : (cs : List Cell) (i j : ℕ) → i < length cs → j < length cs → places (swap cs i j) ≡ swap (places cs) i j
places-swap [] i j h k = refl
places-swap (c ∷ cs) i j h k =
    let at = λ (x : Cell). x.0 in let xs = c ∷ cs in
    map-set at (set xs i (get_or xs j c)) j (get_or xs i c) ∙ ap (λ ps. set ps j (at (get_or xs i c))) (map-set at xs i (get_or xs j c))
    ∙ (λ t. set (set (map at xs) i (sym (get_or-map at xs j c (at c) k) t)) j (sym (get_or-map at xs i c (at c) h) t))

-- the nodes in another order, in which these are their places
pub record Arranged (cs : List Cell) (ps : List Ptr) : Type 0 where
  pub cells : List Cell
  pub same : IsPermutation cs cells
  pub lie : places cells ≡ ps

pub in_order : (cs : List Cell) (ps : List Ptr) → IsPermutation (places cs) ps → Arranged cs ps
in_order cs =
    IsPermutation-keeps (places cs) (Arranged cs) (record { cells = cs; same = IsPermutation-refl cs; lie = refl }) (λ l i j h k got.
    let ds = got.cells in
    let long : length ds ≡ length l = sym (length-map ds (λ (x : Cell). x.0)) ∙ ap length got.lie in
    let h' : i < length ds = omega (arith, h, long) in
    let k' : j < length ds = omega (arith, k, long) in
    record {
      cells = swap ds i j;
      same = IsPermutation-trans cs ds (swap ds i j) got.same (IsPermutation-swap ds (swap ds i j) i j h' k' refl);
      lie = places-swap ds i j h' k' ∙ ap (λ qs. swap qs i j) got.lie;
    })

pub places-front : (ps qs : List Ptr) (cs : List Cell) → places cs ≡ ps ++ qs → places (take (length ps) cs) ≡ ps
places-front [] qs cs e = refl
places-front (p ∷ ps) qs [] e = absurd (omega (arith, ap length e))
places-front (p ∷ ps) qs (c ∷ cs) e =
    let here : c.0 ≡ p = ap (λ l. get_or l 0 null_ptr) e in
    let rest = places-front ps qs cs (ap (drop 1) e) in
    λ k. here k ∷ rest k

pub places-behind : (ps qs : List Ptr) (cs : List Cell) → places cs ≡ ps ++ qs → places (drop (length ps) cs) ≡ qs
places-behind [] qs cs e = e
places-behind (p ∷ ps) qs [] e = absurd (omega (arith, ap length e))
places-behind (p ∷ ps) qs (c ∷ cs) e = places-behind ps qs cs (ap (drop 1) e)

-- ---- in memory

-- what nodes side by side from the o-th byte of a block on own
abbrev pub lined_up : List Node → ℕ → ℕ → Fml
lined_up = parts (mem node.the_row) (shares node.the_row) full_share

module _ {M : Type 1} {𝓤 : Ura M} (𝓛 : Logic 𝓤) (b : ℕ) where
  abbrev ⟦◌⟧ : Fml → SProp 𝓤
  ⟦ P ⟧ = sem 𝓛 P

  pub row_apart : (ns : List Node) (o : ℕ) → ent 𝓤 ⟦ lined_up ns b o ⟧ ⟦ nodes_own (row_cells (block_ptr b o) ns) ⟧
  row_apart [] o = id⊢ 𝓤 ⟦ nodes_own [] ⟧
  row_apart (n ∷ ns) o =
      qed 𝓛 (‵ (lined_up (n ∷ ns) b o) ∷ []) ∵ fsplit ! $ move ! (1 ∷ []) $
      use1 𝓛 (‵ (nodes_own (row_cells (block_ptr b o +ₚ node_size) ns))) (row_apart ns _) $ move ! (1 ∷ 0 ∷ []) $ fjoin ! $ done !

  pub row_whole : (ns : List Node) (o : ℕ) → ent 𝓤 ⟦ nodes_own (row_cells (block_ptr b o) ns) ⟧ ⟦ lined_up ns b o ⟧
  row_whole [] o = id⊢ 𝓤 ⟦ nodes_own [] ⟧
  row_whole (n ∷ ns) o =
      qed 𝓛 (‵ (nodes_own (row_cells (block_ptr b o) (n ∷ ns))) ∷ []) ∵ fsplit ! $ move ! (1 ∷ []) $
      use1 𝓛 (‵ (lined_up ns b _)) (row_whole ns _) $ move ! (1 ∷ 0 ∷ []) $ fjoin ! $ done !
