-- One node is taken out of those that a chain owns or lends, and put in, and the nodes are owned in any order. Assumes `Logic`.
use Rattle.std.proofs.Common.{◌≡◌, ℕ, zero, suc, ◌<◌, List, [], ◌∷◌, ◌++◌, length, get_or, set, refl, sym, subst, arith, swap, IsPermutation}
use Rattle.std.specs.List.Sorted.{apply_swaps, SwapsInRange}
use Rattle.std.proofs.lemmas.List.Sorted.{length_permutation}
use seplogic.Ra.Ura.{Ura}
use base.Fraction.{full_share}
use base.Logic.{SProp, ent, sep, via, id⊢, fst∗, snd∗, emp∗}
use base.Fml.{Lft, Fml}
use types.Logic.{Logic, sem}
use types.Kit.{‵, ◌$◌, ◌∵◌, !, qed, move, use1, use2, fsplit, fjoin, split, done, ◌⊛◌}
use denote.RawPtr.{Ptr, lies_at}
use denote.Struct.Lending.{lent_at}
use Rattle.interval_list.specs.contracts.node.Node as node
use Rattle.interval_list.specs.declared.node.Node.{Node}
use Rattle.interval_list.specs.Cells.{Cell, place_of, node_of, with_node}
use Rattle.interval_list.specs.Edits.{inserted, removed}
use Rattle.interval_list.specs.Ownership.{nodes_own, nodes_lent}

-- a node at a place
abbrev pub one : Ptr → Node → Fml
one p n = lies_at node.the_row full_share p n

module _ {M : Type 1} {𝓤 : Ura M} (𝓛 : Logic 𝓤) where
  abbrev ⟦◌⟧ : Fml → SProp 𝓤
  ⟦ P ⟧ = sem 𝓛 P

  pub taken_out : (cs : List Cell) (i : ℕ) → i < length cs → ent 𝓤 ⟦ nodes_own cs ⟧ (sep 𝓤 ⟦ one (place_of cs i) (node_of cs i) ⟧ ⟦ nodes_own (removed cs i) ⟧)
  taken_out [] i within = absurd (omega arith)
  taken_out (c ∷ cs) zero within = qed 𝓛 (‵ (nodes_own (c ∷ cs)) ∷ []) ∵ fsplit ! $ done !
  taken_out (c ∷ cs) (suc i) within =
      qed 𝓛 (‵ (nodes_own (c ∷ cs)) ∷ []) ∵ fsplit ! $ move ! (1 ∷ []) $
      use1 𝓛 (‵ (one (place_of cs i) (node_of cs i)) ⊛ ‵ (nodes_own (removed cs i))) (taken_out cs i (omega arith)) $ split ! $
      move ! (2 ∷ 1 ∷ []) $ fjoin ! $ move ! (1 ∷ 0 ∷ []) $ done !

  pub put_in : (cs : List Cell) (i : ℕ) (c : Cell) → ent 𝓤 (sep 𝓤 ⟦ one c.0 c.1 ⟧ ⟦ nodes_own cs ⟧) ⟦ nodes_own (inserted cs i c) ⟧
  put_in cs zero c = qed 𝓛 (‵ (one c.0 c.1) ∷ ‵ (nodes_own cs) ∷ []) ∵ fjoin ! $ done !
  put_in [] (suc i) c = qed 𝓛 (‵ (one c.0 c.1) ∷ ‵ (nodes_own []) ∷ []) ∵ fjoin ! $ done !
  put_in (x ∷ cs) (suc i) c =
      qed 𝓛 (‵ (one c.0 c.1) ∷ ‵ (nodes_own (x ∷ cs)) ∷ []) ∵ move ! (1 ∷ []) $ fsplit ! $ move ! (2 ∷ 1 ∷ []) $
      use2 𝓛 (‵ (nodes_own (inserted cs i c))) (put_in cs i c) $ move ! (1 ∷ 0 ∷ []) $ fjoin ! $ done !

  pub set_in : (cs : List Cell) (i : ℕ) (n : Node) → i < length cs → ent 𝓤 (sep 𝓤 ⟦ one (place_of cs i) n ⟧ ⟦ nodes_own (removed cs i) ⟧) ⟦ nodes_own (with_node cs i n) ⟧
  set_in [] i n within = absurd (omega arith)
  set_in (c ∷ cs) zero n within = qed 𝓛 (‵ (one c.0 n) ∷ ‵ (nodes_own cs) ∷ []) ∵ fjoin ! $ done !
  set_in (c ∷ cs) (suc i) n within =
      qed 𝓛 (‵ (one (place_of cs i) n) ∷ ‵ (nodes_own (c ∷ removed cs i)) ∷ []) ∵ move ! (1 ∷ []) $ fsplit ! $ move ! (2 ∷ 1 ∷ []) $
      use2 𝓛 (‵ (nodes_own (with_node cs i n))) (set_in cs i n (omega arith)) $ move ! (1 ∷ 0 ∷ []) $ fjoin ! $ done !

  pub lent_one : (cs : List Cell) (i : ℕ) (κ : Lft) → i < length cs → ent 𝓤 ⟦ nodes_lent cs κ ⟧ ⟦ lent_at node.the_row (place_of cs i) (node_of cs i) κ ⟧
  lent_one [] i κ within = absurd (omega arith)
  lent_one (c ∷ cs) zero κ within = fst∗ 𝓤 ⟦ lent_at node.the_row c.0 c.1 κ ⟧ ⟦ nodes_lent cs κ ⟧
  lent_one (c ∷ cs) (suc i) κ within = via 𝓤 ⟦ nodes_lent cs κ ⟧ (snd∗ 𝓤 ⟦ lent_at node.the_row c.0 c.1 κ ⟧ ⟦ nodes_lent cs κ ⟧) (lent_one cs i κ (omega arith))

  pub joined : (cs ds : List Cell) → ent 𝓤 (sep 𝓤 ⟦ nodes_own cs ⟧ ⟦ nodes_own ds ⟧) ⟦ nodes_own (cs ++ ds) ⟧
  joined [] ds = snd∗ 𝓤 ⟦ nodes_own [] ⟧ ⟦ nodes_own ds ⟧
  joined (c ∷ cs) ds =
      qed 𝓛 (‵ (nodes_own (c ∷ cs)) ∷ ‵ (nodes_own ds) ∷ []) ∵ fsplit ! $ move ! (1 ∷ 2 ∷ []) $
      use2 𝓛 (‵ (nodes_own (cs ++ ds))) (joined cs ds) $ move ! (1 ∷ 0 ∷ []) $ fjoin ! $ done !

  pub parted : (cs ds : List Cell) → ent 𝓤 ⟦ nodes_own (cs ++ ds) ⟧ (sep 𝓤 ⟦ nodes_own cs ⟧ ⟦ nodes_own ds ⟧)
  parted [] ds = emp∗ 𝓤 ⟦ nodes_own ds ⟧
  parted (c ∷ cs) ds =
      qed 𝓛 (‵ (nodes_own (c ∷ cs ++ ds)) ∷ []) ∵ fsplit ! $ move ! (1 ∷ []) $
      use1 𝓛 (‵ (nodes_own cs) ⊛ ‵ (nodes_own ds)) (parted cs ds) $ split ! $ move ! (2 ∷ 0 ∷ []) $ fjoin ! $ done !

  -- ---- in any order

  -- one node goes in where another comes out
  given_for : (cs : List Cell) (i : ℕ) (d c : Cell) → i < length cs → ent 𝓤 (sep 𝓤 ⟦ one c.0 c.1 ⟧ ⟦ nodes_own cs ⟧) (sep 𝓤 ⟦ one (get_or cs i d).0 (get_or cs i d).1 ⟧ ⟦ nodes_own (set cs i c) ⟧)
  given_for [] i d c within = absurd (omega arith)
  given_for (x ∷ cs) zero d c within = qed 𝓛 (‵ (one c.0 c.1) ∷ ‵ (nodes_own (x ∷ cs)) ∷ []) ∵ move ! (1 ∷ []) $ fsplit ! $ move ! (2 ∷ 1 ∷ []) $ fjoin ! $ move ! (1 ∷ 0 ∷ []) $ done !
  given_for (x ∷ cs) (suc i) d c within =
      qed 𝓛 (‵ (one c.0 c.1) ∷ ‵ (nodes_own (x ∷ cs)) ∷ []) ∵ move ! (1 ∷ []) $ fsplit ! $ move ! (2 ∷ 1 ∷ []) $
      use2 𝓛 (‵ (one (get_or cs i d).0 (get_or cs i d).1) ⊛ ‵ (nodes_own (set cs i c))) (given_for cs i d c (omega arith)) $ split ! $ move ! (2 ∷ 1 ∷ []) $ fjoin ! $ move ! (1 ∷ 0 ∷ []) $ done !

  first_given_for : (c : Cell) (cs : List Cell) (i : ℕ) (d : Cell) → i < length cs → ent 𝓤 ⟦ nodes_own (c ∷ cs) ⟧ ⟦ nodes_own (get_or cs i d ∷ set cs i c) ⟧
  first_given_for c cs i d within =
      qed 𝓛 (‵ (nodes_own (c ∷ cs)) ∷ []) ∵ fsplit ! $
      use2 𝓛 (‵ (one (get_or cs i d).0 (get_or cs i d).1) ⊛ ‵ (nodes_own (set cs i c))) (given_for cs i d c within) $ split ! $ fjoin ! $ done !

  exchanged : (cs : List Cell) (i j : ℕ) (d : Cell) → i < length cs → j < length cs → ent 𝓤 ⟦ nodes_own cs ⟧ ⟦ nodes_own (set (set cs i (get_or cs j d)) j (get_or cs i d)) ⟧
  exchanged [] i j d h k = absurd (omega arith)
  exchanged (c ∷ cs) zero zero d h k = id⊢ 𝓤 ⟦ nodes_own (c ∷ cs) ⟧
  exchanged (c ∷ cs) zero (suc j) d h k = first_given_for c cs j d (omega arith)
  exchanged (c ∷ cs) (suc i) zero d h k = first_given_for c cs i d (omega arith)
  exchanged (c ∷ cs) (suc i) (suc j) d h k =
      qed 𝓛 (‵ (nodes_own (c ∷ cs)) ∷ []) ∵ fsplit ! $ move ! (1 ∷ []) $
      use1 𝓛 (‵ (nodes_own (set (set cs i (get_or cs j d)) j (get_or cs i d)))) (exchanged cs i j d (omega arith) (omega arith)) $ move ! (1 ∷ 0 ∷ []) $ fjoin ! $ done !

  swapped : (cs : List Cell) (i j : ℕ) → i < length cs → j < length cs → ent 𝓤 ⟦ nodes_own cs ⟧ ⟦ nodes_own (swap cs i j) ⟧
  swapped [] i j h k = id⊢ 𝓤 ⟦ nodes_own [] ⟧
  swapped (c ∷ cs) i j h k = exchanged (c ∷ cs) i j c h k

  moved : (cs : List Cell) (ps : List (ℕ × ℕ)) → SwapsInRange (length cs) ps → ent 𝓤 ⟦ nodes_own cs ⟧ ⟦ nodes_own (apply_swaps cs ps) ⟧
  moved cs [] h = id⊢ 𝓤 ⟦ nodes_own cs ⟧
  moved cs (p ∷ ps) h =
      let now = apply_swaps cs ps in
      let long : length now ≡ length cs = length_permutation cs now (record { moves = ps; below = h.2; is = refl }) in
      via 𝓤 ⟦ nodes_own now ⟧ (moved cs ps h.2) (swapped now p.0 p.1 (subst (λ n. p.0 < n) (sym long) h.0) (subst (λ n. p.1 < n) (sym long) h.1))

  pub arranged : (cs ds : List Cell) → IsPermutation cs ds → ent 𝓤 ⟦ nodes_own cs ⟧ ⟦ nodes_own ds ⟧
  arranged cs ds s = subst (λ (l : List Cell). ent 𝓤 ⟦ nodes_own cs ⟧ ⟦ nodes_own l ⟧) (sym s.is) (moved cs s.moves s.below)
