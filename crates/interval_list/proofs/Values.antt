-- The machine values of a place, of a node in no chain, and of the owners of nodes and of blocks. Assumes `Logic`.
use Rattle.std.proofs.Common.{◌≡◌, ℕ, List, [], ◌∷◌, ◌++◌, T, lit<, refl, subst}
use seplogic.Ra.Ura.{Ura}
use base.Logic.{id⊢}
use mir.Val.{Val, vstruct, vcons, vnil, of_list, has_ty, WT}
use types.Logic.{Logic}
use types.Kit.{Item, Goal, Seq, Step, step, ‵, ◌$◌, drop, fsplit, fjoin, fpick, fpack, feq_i, feq_l}
use denote.RattleType.{RattleType, Valss}
use denote.Builtin.{RawPtr}
use denote.Memory.{lone}
use denote.RawPtr.{Ptr, block_ptr, null_ptr, ptr_val, in_a_block}
use denote.Steps.{nothing}
use denote.Struct.Struct.{within}
use denote.Struct.Owning.{shape}
use Rattle.interval_list.specs.contracts.node.Place as place
use Rattle.interval_list.specs.contracts.nodes.Nodes as nodes
use Rattle.interval_list.specs.contracts.blocks.Blocks as blocks
use Rattle.interval_list.specs.contracts.lone.LoneNode as lone_node
use Rattle.interval_list.specs.declared.node.Node.{Node}
use Rattle.interval_list.specs.Ownership.{nodes_own, rights_own}
use Rattle.interval_list.proofs.Owned.{one}

abbrev pub N : RattleType
N = nodes.the_row

abbrev pub P : RattleType
P = place.the_row

abbrev pub B : RattleType
B = blocks.the_row

-- a node in no chain
abbrev pub L : RattleType
L = lone_node.the_row

abbrev pub word : Ptr → Val
word p = vstruct (vcons (ptr_val p) vnil)

abbrev pub no_word : Val
no_word = vstruct vnil

pub word_good : (p : Ptr) → T (has_ty (lone P.mir) (word p)) × WT (word p)
word_good (block_ptr b o) = (tt, (tt, tt))
word_good null_ptr = (tt, (record { fits = lit< tt }, tt))

module _ {M : Type 1} {𝓤 : Ura M} {𝓛 : Logic 𝓤} {K : Type 0} {Γ : List (Item 𝓤)} {G : Goal 𝓤 𝓛.H} where
  pub place_had : K → (p : Ptr) (vs : List Val) → (vs ≡ word p ∷ [] → Seq K 𝓛 Γ G) → Seq K 𝓛 (‵ (P.own_val (record { at = p }) vs) ∷ Γ) G
  place_had t p vs k = fpick t (λ vss. fsplit t $ feq_l t (λ ev. fsplit t $ feq_l t (λ e. drop t $ k (subst (λ (ws : List Val). vs ≡ vstruct (of_list (ws ++ [])) ∷ []) e ev))))

  pub place_made : K → (p : Ptr) → Step K 𝓛 (‵ (P.own_val (record { at = p }) (word p ∷ [])) ∷ Γ) G Γ G
  place_made t p = step (λ s.
      nothing t $ feq_i t (List Val) (ptr_val p ∷ []) (ptr_val p ∷ []) refl $ fjoin t $ feq_i t (List Val) (word p ∷ []) (word p ∷ []) refl $ fjoin t $
      fpack t (Valss (RawPtr ∷ [])) (within (record { name = []; args = []; types = []; fields = RawPtr ∷ [] }) (p, tt) (word p ∷ [])) (ptr_val p ∷ [], tt) $ s)

  pub nodes_made : K → (d : N.Denot) → Step K 𝓛 (‵ (N.own_val d (no_word ∷ [])) ∷ Γ) G (‵ (nodes_own d.cells) ∷ Γ) G
  nodes_made t d = step (λ s.
      nothing t $ feq_i t (List Val) (no_word ∷ []) (no_word ∷ []) refl $ fjoin t $
      fpack t (Valss []) (within (shape nodes.the_type) tt (no_word ∷ [])) tt $ fjoin t $ s)

  pub nodes_had : K → (d : N.Denot) (vs : List Val) → (vs ≡ no_word ∷ [] → Seq K 𝓛 (‵ (nodes_own d.cells) ∷ Γ) G) → Seq K 𝓛 (‵ (N.own_val d vs) ∷ Γ) G
  nodes_had t d vs k = fsplit t $ fpick t (λ vss. fsplit t $ feq_l t (λ ev. drop t $ k ev))

  pub blocks_made : K → (d : B.Denot) → Step K 𝓛 (‵ (B.own_val d (no_word ∷ [])) ∷ Γ) G (‵ (rights_own d.blocks) ∷ Γ) G
  blocks_made t d = step (λ s.
      nothing t $ feq_i t (List Val) (no_word ∷ []) (no_word ∷ []) refl $ fjoin t $
      fpack t (Valss []) (within (shape blocks.the_type) tt (no_word ∷ [])) tt $ fjoin t $ s)

  pub lone_had : K → (d : L.Denot) (vs : List Val)
      → ((b o : ℕ) → d.at ≡ block_ptr b o → vs ≡ word (block_ptr b o) ∷ [] → Seq K 𝓛 (‵ (one (block_ptr b o) d.node) ∷ Γ) G)
      → Seq K 𝓛 (‵ (L.own_val d vs) ∷ Γ) G
  lone_had t d vs k =
      fsplit t $ fpick t (λ vss. fsplit t $ feq_l t (λ ev. fsplit t $ feq_l t (λ ep. drop t $
      in_a_block t d.at (λ p. one p d.node) (id⊢ 𝓤 _) (λ b o e. k b o e
      (subst (λ (p : Ptr). vs ≡ word p ∷ []) e (subst (λ (ws : List Val). vs ≡ vstruct (of_list (ws ++ [])) ∷ []) ep ev))))))

  pub lone_made : K → (b o : ℕ) (n : Node) → Step K 𝓛 (‵ (L.own_val (record { at = block_ptr b o; node = n }) (word (block_ptr b o) ∷ [])) ∷ Γ) G (‵ (one (block_ptr b o) n) ∷ Γ) G
  lone_made t b o n = step (λ s. let v : Val = word (block_ptr b o) in
      nothing t $ feq_i t (List Val) (ptr_val (block_ptr b o) ∷ []) (ptr_val (block_ptr b o) ∷ []) refl $ fjoin t $ feq_i t (List Val) (v ∷ []) (v ∷ []) refl $ fjoin t $
      fpack t (Valss (RawPtr ∷ [])) (within (shape lone_node.the_type) (block_ptr b o, tt) (v ∷ [])) (ptr_val (block_ptr b o) ∷ [], tt) $ fjoin t $ s)
