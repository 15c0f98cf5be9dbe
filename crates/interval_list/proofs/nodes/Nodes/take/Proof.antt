-- `take` hands out what the list owns at the place. Assumes `Logic`.
use Rattle.std.proofs.Common.{◌≡◌, ◌<◌, List, [], ◌∷◌, ◌++◌, length, refl, sym, ap, ◌∙◌, w64}
use mir.Syntax.{Fn, named}
use mir.Val.{Val, vptr, vint}
use base.Logic.{SProp, id⊢}
use base.Fml.{ftrue, fsep, flft}
use contract.Monad.{fact}
use contract.Running.{tables}
use prog.Wp.{WpFn}
use types.Kit.{‵, raw, ◌⊛◌, prop, ◌$◌, ◌∵◌, !, qed, done, move, keep, split, join, fsplit, fsplit3, fjoin, fjoin3, use1, feq_i, feq_l, regoal, suffices}
use types.Part.{whole, sub, agg}
use types.Run.{stop, fld, of_opd, no_more, and_then, returns, enter}
use types.ByLocal.{alloc_all, pass_all, free_all, look_at, get, get_in, sets, is}
use denote.Builtin.{usize}
use denote.Exit.{yes}
use denote.RawPtr.{block_ptr, ptr_val, in_a_block}
use denote.Ref.{MutRef}
use denote.Signature.{plain}
use denote.Steps.{nothing, heard, opens, closes}
use denote.Triple.Walked.{Stays, stay_dropped, stay_ref, walk_of, Goes-dropped, Goes-ref, says, ends_at}
use Rattle.std.proofs.raw_atomic.Walks.{proved_at}
use Rattle.interval_list.proofs.Owned.{one, taken_out}
use Rattle.interval_list.proofs.Values.{N, P, word, word_good, lone_made, place_had}
use Rattle.interval_list.specs.Cells.{Cell, place_of, node_of}
use Rattle.interval_list.specs.Edits.{removed}
use Rattle.interval_list.specs.Ownership.{nodes_own}
use Rattle.interval_list.specs.declared.node.Node.{Node}
use Rattle.interval_list.specs.contracts.nodes.Nodes.take as f
use Rattle.interval_list.proofs.nodes.Nodes.take.Statement.{statement}
use Rattle.interval_list.proofs.nodes.Nodes.take.Code as code

abbrev stayed : Stays f.ended.signature.params f.ended.kept
stayed = (stay_ref (0 ∷ []) tt (plain (λ _. N)), (stay_dropped (plain (λ _. P)) yes, (stay_dropped (plain (λ _. usize)) yes, tt)))

pub take_spec : {M : Type 1} → statement M
take_spec 𝓤 𝓛 𝓜 𝓡 wired =
    let H = 𝓛.H in let 𝓣 = tables 𝓤 H 𝓜 𝓡 𝓡.env in let c = f.clauses 𝓛 𝓜.mem 𝓡.returns in let fn : Fn = code.function in
    proved_at 𝓛 f.ended stayed c 𝓜 𝓡
    (Goes-ref 𝓛 1 0 tt (plain (λ _. N)), (Goes-dropped 𝓛 1 (plain (λ _. P)) yes (λ κs x w. refl), (Goes-dropped 𝓛 1 (plain (λ _. usize)) yes (λ κs x w. refl), tt)))
    f.Key.name fn (code.unfolded 𝓤 H 𝓜 𝓡 wired) (λ z are.
    let Post : Val → SProp 𝓤 = (walk_of 𝓛 f.ended stayed c).post z in let κ = z.0.0.0 in let q = z.0.1.0 in
    let self = z.0.3.0 in let d = self.now in let b = self.ref_ptr.0 in let o = self.ref_ptr.1 in let at = z.0.3.1.0.at in let i = z.0.3.1.1.0 in
    let Asked : Type 0 = (i < length d.cells) × (at ≡ place_of d.cells i) in
    qed 𝓛 (((‵ (flft κ q) ⊛ ‵ ftrue) ⊛ ‵ (fsep ((MutRef (named 0) κ N).own_val self z.0.4.0) (fsep (P.own_val z.0.3.1.0 z.0.4.1.0) (fsep (usize.own_val i z.0.4.1.1.0) ftrue)))) ∷ raw (fact 𝓤 Asked) ∷ []) ∵
    move ! (1 ∷ []) $ heard ! Asked (λ asked. split ! $ split ! $ move ! (2 ∷ []) $ fsplit3 ! $ fsplit3 ! $ feq_l ! (λ e. move ! (2 ∷ []) $ place_had ! at z.0.4.1.0 (λ at_is.
    regoal ! (λ (us : List Val). prop (WpFn 𝓤 H 𝓣.C 𝓣.Λ fn us Post)) (λ j. e j ++ (at_is j ++ (are.1.1.0.0 j ++ []))) refl $
    -- [self, in two parts; the number; the token]
    keep ! (0 ∷ 1 ∷ 3 ∷ []) $
    enter ! 𝓣.C 𝓣.Λ fn (vptr b o ∷ word at ∷ vint w64 i ∷ []) Post $
    alloc_all ! (λ l. pass_all ! refl ((tt, tt), (word_good at, ((tt, record { fits = are.1.1.0.1 }), tt))) $
    opens ! tt N b o (λ us. move ! (1 ∷ []) $ fsplit ! $ move ! (1 ∷ []) $
    let n : Node = node_of d.cells i in let rest : List Cell = removed d.cells i in let new : N.Denot = record { cells = rest } in
    use1 𝓛 (‵ (one (place_of d.cells i) n) ⊛ ‵ (nodes_own rest)) (taken_out 𝓛 d.cells i asked.0) $ split ! $
    in_a_block ! (place_of d.cells i) (λ p. one p n) (id⊢ 𝓤 _) (λ nb no there.
    sets ! (is ! (of_opd ! (get_in ! (fld ! refl (stop !)) (sub ! 0 refl (whole !)))) (ap ptr_val (asked.1 ∙ there))) refl (tt, tt) $
    sets ! (agg ! (and_then ! (get ! refl) (no_more !))) refl (tt, (tt, tt)) $
    -- [the node; the others; the fields; the cell; the open borrow]
    move ! (2 ∷ 1 ∷ []) $ fjoin ! $ move ! (2 ∷ 0 ∷ 3 ∷ 4 ∷ 5 ∷ []) $ closes ! tt N new us b o $
    move ! (3 ∷ []) $ lone_made ! nb no n $
    returns ! (look_at ! 0 refl) $ free_all ! refl $ move ! (1 ∷ 2 ∷ 3 ∷ []) $
    feq_i ! (List Val) z.0.4.0 (vptr b o ∷ []) e $ fjoin3 ! $ nothing ! $ nothing ! $ fjoin ! $ nothing ! $ fjoin ! $ move ! (1 ∷ 0 ∷ []) $ fjoin ! $
    suffices ! _ (ends_at 𝓛 f.ended stayed c z (word (block_ptr nb no)) (record { at = block_ptr nb no; node = n }) (new, (tt, (tt, tt))) (tt, (tt, (tt, tt)))) $ says ! (sym (asked.1 ∙ there), refl) $
    move ! (0 ∷ 2 ∷ []) $ join ! $ nothing ! $ move ! (2 ∷ 0 ∷ []) $ join ! $ join ! $ done !)))))))
