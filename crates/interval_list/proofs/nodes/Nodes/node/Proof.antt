-- `node` shows a node that the list lends. Assumes `Logic`.
use Rattle.std.proofs.Common.{◌≡◌, ◌<◌, List, [], ◌∷◌, ◌++◌, length, refl, ap, ◌∙◌, w64}
use mir.Syntax.{Fn, named}
use mir.Val.{Val, vptr, vint}
use base.Logic.{SProp, never, fst∗}
use types.Logic.{sem}
use base.Fml.{ftrue, flft, fhide}
use contract.Monad.{fact}
use contract.Running.{tables}
use prog.Wp.{WpFn}
use types.Kit.{‵, raw, ◌⊛◌, at_ret, prop, ◌$◌, ◌∵◌, !, qed, done, move, keep, drop, split, join, fsplit, fsplit3, fjoin, use1, feq_i, feq_l, regoal, suffices}
use types.Part.{whole, sub}
use types.Run.{stop, fld, addr, of_opd, first, blocks, exec, returns, enter}
use types.ByLocal.{alloc_all, pass_all, free_all, look_at, get, get_in, through, sets, sets_last, is, env}
use denote.Builtin.{RefOf, usize}
use denote.Exit.{yes}
use denote.Memory.{shared_of, hidden_shr}
use denote.RattleType.{RattleType, owns}
use denote.RawPtr.{null_ptr, ptr_val, in_a_block}
use denote.Ref.{ShrRef}
use denote.Signature.{plain}
use denote.Steps.{nothing, heard}
use denote.Triple.Walked.{Stays, stay_dropped, walk_of, Goes-dropped, says, ends_at}
use Rattle.std.proofs.alloc.Shapes.{after}
use denote.Opens.{unhide, hide}
use denote.Struct.Lending.{lent_at, lent_out}
use denote.Struct.Struct.{Struct}
use denote.Struct.Owning.{shape}
use Rattle.std.proofs.raw_atomic.Walks.{proved_at}
use Rattle.interval_list.proofs.Owned.{lent_one}
use Rattle.interval_list.proofs.Values.{N, P, word, word_good, place_had}
use Rattle.interval_list.specs.Cells.{place_of, node_of}
use Rattle.interval_list.specs.declared.node.Node.{Node}
use Rattle.interval_list.specs.contracts.node.Node as node
use Rattle.interval_list.specs.contracts.nodes.Nodes as nodes
use Rattle.interval_list.specs.contracts.nodes.Nodes.node as f
use Rattle.interval_list.proofs.nodes.Nodes.node.Statement.{statement}
use Rattle.interval_list.proofs.nodes.Nodes.node.Code as code

abbrev stayed : Stays f.ended.signature.params f.ended.kept
stayed = (stay_dropped (RefOf (0 ∷ []) tt (plain (λ _. N)) (λ _. tt)) yes, (stay_dropped (plain (λ _. P)) yes, (stay_dropped (plain (λ _. usize)) yes, tt)))

-- the fields of the owner, of which there are none
abbrev Fields : RattleType
Fields = Struct (shape nodes.the_type)

pub node_spec : {M : Type 1} → statement M
node_spec 𝓤 𝓛 𝓜 𝓡 wired =
    let H = 𝓛.H in let 𝓣 = tables 𝓤 H 𝓜 𝓡 𝓡.env in let c = f.clauses 𝓛 𝓜.mem 𝓡.returns in let fn : Fn = code.function in
    proved_at 𝓛 f.ended stayed c 𝓜 𝓡
    (Goes-dropped 𝓛 1 (RefOf (0 ∷ []) tt (plain (λ _. N)) (λ _. tt)) yes (λ κs x w. refl), (Goes-dropped 𝓛 1 (plain (λ _. P)) yes (λ κs x w. refl), (Goes-dropped 𝓛 1 (plain (λ _. usize)) yes (λ κs x w. refl), tt)))
    f.Key.name fn (code.unfolded 𝓤 H 𝓜 𝓡 wired) (λ z are.
    let Post : Val → SProp 𝓤 = (walk_of 𝓛 f.ended stayed c).post z in let κ = z.0.0.0 in let q = z.0.1.0 in
    let self = z.0.3.0 in let d = self.now in let b = self.ref_ptr.0 in let o = self.ref_ptr.1 in let at = z.0.3.1.0.at in let i = z.0.3.1.1.0 in let n : Node = node_of d.cells i in
    let Asked : Type 0 = (i < length d.cells) × (at ≡ place_of d.cells i) in
    qed 𝓛 (((‵ (flft κ q) ⊛ ‵ ftrue) ⊛ ‵ (owns (ShrRef (named 0) κ N ∷ P ∷ usize ∷ []) z.0.3 z.0.4)) ∷ raw (fact 𝓤 Asked) ∷ []) ∵
    move ! (1 ∷ []) $ heard ! Asked (λ asked. split ! $ split ! $ move ! (2 ∷ []) $ fsplit3 ! $ fsplit ! $ feq_l ! (λ e. move ! (1 ∷ []) $ place_had ! at z.0.4.1.0 (λ at_is.
    regoal ! (λ (us : List Val). prop (WpFn 𝓤 H 𝓣.C 𝓣.Λ fn us Post)) (λ j. e j ++ (at_is j ++ (are.1.1.0.0 j ++ []))) refl $
    -- [the `&`; the number; the token]
    keep ! (0 ∷ 2 ∷ []) $
    enter ! 𝓣.C 𝓣.Λ fn (vptr b o ∷ word at ∷ vint w64 i ∷ []) Post $
    alloc_all ! (λ l. pass_all ! refl ((tt, tt), (word_good at, ((tt, record { fits = are.1.1.0.1 }), tt))) $
    use1 𝓛 (‵ (hidden_shr Fields κ tt b o) ⊛ ‵ (fhide (nodes.the_lent d null_ptr κ))) (lent_out 𝓛 nodes.struct nodes.the_codes nodes.the_heap nodes.the_lent κ d b o) $ split ! $ move ! (1 ∷ []) $ unhide ! $
    use1 𝓛 (‵ (lent_at node.the_row (place_of d.cells i) n κ)) (lent_one 𝓛 d.cells i κ asked.0) $
    in_a_block ! (place_of d.cells i) (λ p. lent_at node.the_row p n κ) (fst∗ 𝓤 (never 𝓤) (sem 𝓛 (shared_of node.the_row n 0 0 κ))) (λ nb no there. fsplit ! $ drop ! $ hide ! $
    let r : Val = vptr nb no in
    sets ! (is ! (of_opd ! (get_in ! (fld ! refl (stop !)) (sub ! 0 refl (whole !)))) (ap ptr_val (asked.1 ∙ there))) refl (tt, tt) $
    first ! $ blocks ! $ sets_last ! (addr ! (through ! refl (stop !))) refl (tt, tt) $ exec ! 𝓣.C 𝓣.Λ (env fn.locals l) (after 2 fn.body) (at_ret _ Post) $ sets ! (of_opd ! (get ! refl)) refl (tt, tt) $
    feq_i ! (List Val) (r ∷ []) (r ∷ []) refl $ fjoin ! $ returns ! (look_at ! 0 refl) $ free_all ! refl $ keep ! (0 ∷ 2 ∷ []) $
    suffices ! _ (ends_at 𝓛 f.ended stayed c z r (record { ref_ptr = (nb, no); now = n }) (tt, (tt, (tt, tt))) (tt, (tt, (tt, tt)))) $ says ! refl $
    nothing ! $ nothing ! $ fjoin ! $ nothing ! $ fjoin ! $ nothing ! $ fjoin ! $ join ! $ nothing ! $ move ! (2 ∷ 0 ∷ []) $ join ! $ join ! $ done !))))))
