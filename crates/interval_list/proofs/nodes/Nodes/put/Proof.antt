-- `put` takes what the node owns into the list. Assumes `Logic`.
use Rattle.std.proofs.Common.{List, [], ◌∷◌, ◌++◌, refl, sym, w64}
use mir.Syntax.{Fn, named}
use mir.Val.{Val, vptr, vint}
use base.Logic.{SProp}
use base.Fml.{ftrue, fsep, flft}
use contract.Running.{tables}
use prog.Wp.{WpFn}
use types.Kit.{‵, ◌⊛◌, prop, ◌$◌, ◌∵◌, !, qed, done, move, keep, use2, split, join, fsplit, fsplit3, fjoin, fjoin3, feq_i, feq_l, regoal, suffices}
use types.Part.{whole, sub, agg}
use types.Run.{stop, fld, of_opd, no_more, and_then, returns, enter}
use types.ByLocal.{alloc_all, pass_all, free_all, look_at, get, get_in, sets}
use denote.Builtin.{usize}
use denote.Exit.{yes}
use denote.RawPtr.{Ptr, block_ptr}
use denote.Ref.{MutRef}
use denote.Signature.{plain}
use denote.Steps.{nothing, opens, closes}
use denote.Triple.Walked.{Stays, stay_dropped, stay_ref, walk_of, Goes-dropped, Goes-ref, says, ends_at}
use Rattle.std.proofs.alloc.Calls.{Goes-blank}
use Rattle.std.proofs.raw_atomic.Walks.{proved_at}
use Rattle.interval_list.proofs.Owned.{put_in}
use Rattle.interval_list.proofs.Values.{N, L, word, word_good, lone_had, place_made}
use Rattle.interval_list.specs.Edits.{inserted}
use Rattle.interval_list.specs.Ownership.{nodes_own}
use Rattle.interval_list.specs.contracts.nodes.Nodes.put as f
use Rattle.interval_list.proofs.nodes.Nodes.put.Statement.{statement}
use Rattle.interval_list.proofs.nodes.Nodes.put.Code as code

abbrev stayed : Stays f.ended.signature.params f.ended.kept
stayed = (stay_ref (0 ∷ []) tt (plain (λ _. N)), (stay_dropped (plain (λ _. usize)) yes, (stay_dropped (plain (λ _. L)) yes, tt)))

pub put_spec : {M : Type 1} → statement M
put_spec 𝓤 𝓛 𝓜 𝓡 wired =
    let H = 𝓛.H in let 𝓣 = tables 𝓤 H 𝓜 𝓡 𝓡.env in let c = f.clauses 𝓛 𝓜.mem 𝓡.returns in let fn : Fn = code.function in
    proved_at 𝓛 f.ended stayed c 𝓜 𝓡
    (Goes-ref 𝓛 1 0 tt (plain (λ _. N)), (Goes-dropped 𝓛 1 (plain (λ _. usize)) yes (λ κs x w. refl), (Goes-blank 𝓛 1 (plain (λ _. L)) yes (λ κs x w. tt), tt)))
    f.Key.name fn (code.unfolded 𝓤 H 𝓜 𝓡 wired) (λ z are.
    let Post : Val → SProp 𝓤 = (walk_of 𝓛 f.ended stayed c).post z in let κ = z.0.0.0 in let q = z.0.1.0 in
    let self = z.0.3.0 in let d = self.now in let b = self.ref_ptr.0 in let o = self.ref_ptr.1 in let i = z.0.3.1.0 in let v = z.0.3.1.1.0 in
    qed 𝓛 (((‵ (flft κ q) ⊛ ‵ ftrue) ⊛ ‵ (fsep ((MutRef (named 0) κ N).own_val self z.0.4.0) (fsep (usize.own_val i z.0.4.1.0) (fsep (L.own_val v z.0.4.1.1.0) ftrue)))) ∷ ‵ ftrue ∷ []) ∵
    split ! $ split ! $ move ! (2 ∷ []) $ fsplit3 ! $ fsplit3 ! $ feq_l ! (λ e. move ! (3 ∷ []) $ fsplit ! $
    lone_had ! v z.0.4.1.1.0 (λ lb lo at ws.
    regoal ! (λ (us : List Val). prop (WpFn 𝓤 H 𝓣.C 𝓣.Λ fn us Post)) (λ j. e j ++ (are.1.0.0 j ++ (ws j ++ []))) refl $
    -- [the node; nothing; self, in two parts; the number; the token]
    keep ! (0 ∷ 2 ∷ 3 ∷ 5 ∷ []) $
    let here : Ptr = block_ptr lb lo in
    enter ! 𝓣.C 𝓣.Λ fn (vptr b o ∷ vint w64 i ∷ word here ∷ []) Post $
    alloc_all ! (λ l. pass_all ! refl ((tt, tt), ((tt, record { fits = are.1.0.1 }), (word_good here, tt))) $
    sets ! (of_opd ! (get_in ! (fld ! refl (stop !)) (sub ! 0 refl (whole !)))) refl (tt, tt) $
    sets ! (agg ! (and_then ! (get ! refl) (no_more !))) refl (tt, (tt, tt)) $
    move ! (1 ∷ 2 ∷ 3 ∷ []) $ opens ! tt N b o (λ us. move ! (1 ∷ []) $ fsplit ! $ move ! (6 ∷ 1 ∷ []) $
    let new : N.Denot = record { cells = inserted d.cells i (here, v.node) } in
    use2 𝓛 (‵ (nodes_own (inserted d.cells i (here, v.node)))) (put_in 𝓛 d.cells i (here, v.node)) $ move ! (1 ∷ 0 ∷ []) $ fjoin ! $ move ! (1 ∷ []) $ closes ! tt N new us b o $
    returns ! (look_at ! 0 refl) $ free_all ! refl $ keep ! (0 ∷ 1 ∷ 2 ∷ []) $
    feq_i ! (List Val) z.0.4.0 (vptr b o ∷ []) e $ fjoin3 ! $ nothing ! $ nothing ! $ fjoin ! $ nothing ! $ fjoin ! $ move ! (1 ∷ 0 ∷ []) $ fjoin ! $
    suffices ! _ (ends_at 𝓛 f.ended stayed c z (word here) (record { at = here }) (new, (tt, (tt, tt))) (tt, (tt, (tt, tt)))) $ says ! (refl, sym at) $
    place_made ! here $ move ! (1 ∷ 0 ∷ []) $ join ! $ nothing ! $ move ! (2 ∷ 0 ∷ []) $ join ! $ join ! $ done !)))))
