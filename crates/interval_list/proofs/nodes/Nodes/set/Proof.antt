-- `set` writes the node at the place. Assumes `Logic`.
use Rattle.std.proofs.Common.{◌≡◌, ◌<◌, List, [], ◌∷◌, ◌++◌, length, refl, sym, ap, ◌∙◌, w64}
use mir.Syntax.{Fn, named, impl, tnil, dnil}
use mir.Val.{Val, vunit, vptr, vint}
use base.Logic.{SProp, id⊢}
use base.Fraction.{full_share}
use base.Fml.{ftrue, fsep, fat, flft}
use contract.Monad.{fact}
use contract.Running.{tables}
use prog.Wp.{WpFn}
use types.Kit.{‵, raw, ◌⊛◌, some, at_ret, prop, ◌$◌, ◌∵◌, !, qed, done, move, keep, use2, split, join, fsplit, fsplit3, fjoin, fjoin3, use1, feq_i, feq_l, pick, rewrite, regoal, suffices}
use types.Part.{whole, sub}
use types.Run.{stop, fld, store, unit_lit, of_opd, assigns_last, first, blocks, exec, returns, enter}
use types.ByLocal.{alloc_all, pass_all, free_all, look_at, get, get_in, through, sets, is, env}
use denote.Builtin.{usize}
use denote.Exit.{yes}
use denote.Memory.{part_at}
use denote.RawPtr.{Ptr, ptr_val, in_a_block}
use denote.Ref.{MutRef}
use denote.Signature.{plain}
use denote.Steps.{nothing, heard, opens, closes}
use denote.Triple.Walked.{Stays, stay_dropped, stay_ref, walk_of, Goes-dropped, Goes-ref, says, ends_at}
use Rattle.std.proofs.alloc.Calls.{Al, handle_tells}
use Rattle.std.proofs.alloc.Shapes.{after}
use borrow.Table.OneValue.{part_out, part_in}
use denote.Param.{layout}
use Rattle.std.proofs.raw_atomic.Walks.{proved_at}
use Rattle.interval_list.proofs.Owned.{one, taken_out, set_in}
use Rattle.interval_list.proofs.Values.{N, P, word, word_good, place_had}
use Rattle.interval_list.specs.Cells.{Cell, place_of, node_of, with_node}
use Rattle.interval_list.specs.Edits.{removed}
use Rattle.interval_list.specs.Ownership.{nodes_own}
use Rattle.interval_list.specs.declared.node.Node.{Node}
use Rattle.interval_list.specs.contracts.node.Node as node
use Rattle.interval_list.proofs.node.Node.TheLaws as node_laws
use Rattle.interval_list.specs.contracts.nodes.Nodes.set as f
use Rattle.interval_list.proofs.nodes.Nodes.set.Statement.{statement}
use Rattle.interval_list.proofs.nodes.Nodes.set.Code as code

abbrev stayed : Stays f.ended.signature.params f.ended.kept
stayed = (stay_ref (0 ∷ []) tt (plain (λ _. N)), (stay_dropped (plain (λ _. P)) yes, (stay_dropped (plain (λ _. usize)) yes, (stay_dropped (plain (λ _. node.the_row)) yes, tt))))

-- a node as what a call takes by value
abbrev item : Al
item = record { row = node.the_row; laws = node_laws.the_row_laws; g = record { dealloc_token = λ a τ p. ftrue }; d = impl [] tnil dnil; drops = impl [] tnil dnil }

pub set_spec : {M : Type 1} → statement M
set_spec 𝓤 𝓛 𝓜 𝓡 wired =
    let H = 𝓛.H in let 𝓣 = tables 𝓤 H 𝓜 𝓡 𝓡.env in let c = f.clauses 𝓛 𝓜.mem 𝓡.returns in let fn : Fn = code.function in
    proved_at 𝓛 f.ended stayed c 𝓜 𝓡
    (Goes-ref 𝓛 1 0 tt (plain (λ _. N)), (Goes-dropped 𝓛 1 (plain (λ _. P)) yes (λ κs x w. refl), (Goes-dropped 𝓛 1 (plain (λ _. usize)) yes (λ κs x w. refl), (Goes-dropped 𝓛 1 (plain (λ _. node.the_row)) yes (λ κs x w. refl), tt))))
    f.Key.name fn (code.unfolded 𝓤 H 𝓜 𝓡 wired) (λ z are.
    let Post : Val → SProp 𝓤 = (walk_of 𝓛 f.ended stayed c).post z in let κ = z.0.0.0 in let q = z.0.1.0 in
    let self = z.0.3.0 in let d = self.now in let b = self.ref_ptr.0 in let o = self.ref_ptr.1 in let at = z.0.3.1.0.at in let i = z.0.3.1.1.0 in let n : Node = z.0.3.1.1.1.0 in
    let Asked : Type 0 = (i < length d.cells) × (at ≡ place_of d.cells i) in
    qed 𝓛 (((‵ (flft κ q) ⊛ ‵ ftrue) ⊛ ‵ (fsep ((MutRef (named 0) κ N).own_val self z.0.4.0) (fsep (P.own_val z.0.3.1.0 z.0.4.1.0) (fsep (usize.own_val i z.0.4.1.1.0) (fsep (node.the_row.own_val n z.0.4.1.1.1.0) ftrue))))) ∷ raw (fact 𝓤 Asked) ∷ []) ∵
    move ! (1 ∷ []) $ heard ! Asked (λ asked. split ! $ split ! $ move ! (2 ∷ []) $ fsplit3 ! $ fsplit3 ! $ feq_l ! (λ e. move ! (3 ∷ []) $ fsplit3 ! $ move ! (5 ∷ []) $ place_had ! at z.0.4.1.0 (λ at_is. move ! (1 ∷ []) $
    handle_tells item ! n z.0.4.1.1.1.0 (λ v v_is good.
    regoal ! (λ (us : List Val). prop (WpFn 𝓤 H 𝓣.C 𝓣.Λ fn us Post)) (λ j. e j ++ (at_is j ++ (are.1.1.0.0 j ++ (v_is j ++ [])))) refl $
    -- [the new node; the number; nothing; self, in two parts; the token]
    keep ! (0 ∷ 3 ∷ 4 ∷ 5 ∷ []) $
    enter ! 𝓣.C 𝓣.Λ fn (vptr b o ∷ word at ∷ vint w64 i ∷ v ∷ []) Post $
    alloc_all ! (λ l. pass_all ! refl ((tt, tt), (word_good at, ((tt, record { fits = are.1.1.0.1 }), (good, tt)))) $
    move ! (1 ∷ 2 ∷ 3 ∷ []) $ opens ! tt N b o (λ us. move ! (1 ∷ []) $ fsplit ! $ move ! (1 ∷ []) $
    let old : Node = node_of d.cells i in let rest : List Cell = removed d.cells i in let new : N.Denot = record { cells = with_node d.cells i n } in
    use1 𝓛 (‵ (one (place_of d.cells i) old) ⊛ ‵ (nodes_own rest)) (taken_out 𝓛 d.cells i asked.0) $ split ! $
    in_a_block ! (place_of d.cells i) (λ p. one p old) (id⊢ 𝓤 _) (λ nb no there.
    use1 𝓛 (some (λ (w : Val). ‵ (fat full_share (layout node.the_row) nb no w) ⊛ ‵ (node.the_row.own_val old (w ∷ [])))) (part_out 𝓛 node.the_row refl full_share old nb no) $ pick ! (λ w. split ! $
    -- [the node's cell; what it owned; the others; the fields; the cell; the open borrow, in three entries; the new node]
    sets ! (is ! (of_opd ! (get_in ! (fld ! refl (stop !)) (sub ! 0 refl (whole !)))) (ap ptr_val (asked.1 ∙ there))) refl (tt, tt) $
    first ! $ blocks ! $ assigns_last ! (of_opd ! (get ! refl)) (through ! refl (stop !)) (store ! 0 refl good) $
    exec ! 𝓣.C 𝓣.Λ (env fn.locals l) (after 2 fn.body) (at_ret _ Post) $ sets ! (of_opd ! (unit_lit !)) refl (tt, tt) $
    move ! (0 ∷ 8 ∷ []) $ use2 𝓛 (‵ (part_at node.the_row full_share n nb no)) (part_in 𝓛 node.the_row refl full_share n nb no v) $
    rewrite ! 0 (λ (p : Ptr). ‵ (one p n)) (sym there) refl $
    move ! (0 ∷ 2 ∷ []) $ use2 𝓛 (‵ (nodes_own (with_node d.cells i n))) (set_in 𝓛 d.cells i n asked.0) $
    move ! (2 ∷ 0 ∷ []) $ fjoin ! $ move ! (2 ∷ 0 ∷ 3 ∷ 4 ∷ 5 ∷ []) $ closes ! tt N new us b o $
    returns ! (look_at ! 0 refl) $ free_all ! refl $ keep ! (0 ∷ 1 ∷ 2 ∷ []) $
    feq_i ! (List Val) z.0.4.0 (vptr b o ∷ []) e $ fjoin3 ! $ nothing ! $ nothing ! $ fjoin ! $ nothing ! $ fjoin ! $ nothing ! $ fjoin ! $ move ! (1 ∷ 0 ∷ []) $ fjoin ! $
    suffices ! _ (ends_at 𝓛 f.ended stayed c z vunit tt (new, (tt, (tt, (tt, tt)))) (tt, (tt, (tt, (tt, tt))))) $ says ! refl $
    feq_i ! _ (vunit ∷ []) _ refl $ move ! (1 ∷ 0 ∷ []) $ join ! $ nothing ! $ move ! (2 ∷ 0 ∷ []) $ join ! $ join ! $ done !)))))))))
