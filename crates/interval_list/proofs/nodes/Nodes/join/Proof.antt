-- `join` takes what the other list owns. Assumes `Logic`.
use Rattle.std.proofs.Common.{List, [], ◌∷◌, ◌++◌, refl}
use mir.Syntax.{Fn, named}
use mir.Val.{Val, vunit, vptr}
use base.Logic.{SProp}
use base.Fml.{ftrue, fsep, flft}
use contract.Running.{tables}
use prog.Wp.{WpFn}
use types.Kit.{‵, ◌⊛◌, prop, ◌$◌, ◌∵◌, !, qed, done, move, keep, use2, split, join, fsplit, fsplit3, fjoin, fjoin3, feq_i, feq_l, regoal, suffices}
use types.Run.{unit_lit, of_opd, returns, enter}
use types.ByLocal.{alloc_all, pass_all, free_all, look_at, sets}
use denote.Exit.{yes}
use denote.Ref.{MutRef}
use denote.Signature.{plain}
use denote.Steps.{nothing, opens, closes}
use denote.Triple.Walked.{Stays, stay_dropped, stay_ref, walk_of, Goes-ref, says, ends_at}
use Rattle.std.proofs.alloc.Calls.{Goes-blank}
use Rattle.std.proofs.raw_atomic.Walks.{proved_at}
use Rattle.interval_list.proofs.Owned.{joined}
use Rattle.interval_list.proofs.Values.{N, no_word, nodes_had}
use Rattle.interval_list.specs.Ownership.{nodes_own}
use Rattle.interval_list.specs.contracts.nodes.Nodes.join as f
use Rattle.interval_list.proofs.nodes.Nodes.join.Statement.{statement}
use Rattle.interval_list.proofs.nodes.Nodes.join.Code as code

abbrev stayed : Stays f.ended.signature.params f.ended.kept
stayed = (stay_ref (0 ∷ []) tt (plain (λ _. N)), (stay_dropped (plain (λ _. N)) yes, tt))

pub join_spec : {M : Type 1} → statement M
join_spec 𝓤 𝓛 𝓜 𝓡 wired =
    let H = 𝓛.H in let 𝓣 = tables 𝓤 H 𝓜 𝓡 𝓡.env in let c = f.clauses 𝓛 𝓜.mem 𝓡.returns in let fn : Fn = code.function in
    proved_at 𝓛 f.ended stayed c 𝓜 𝓡
    (Goes-ref 𝓛 1 0 tt (plain (λ _. N)), (Goes-blank 𝓛 1 (plain (λ _. N)) yes (λ κs x w. tt), tt))
    f.Key.name fn (code.unfolded 𝓤 H 𝓜 𝓡 wired) (λ z are.
    let Post : Val → SProp 𝓤 = (walk_of 𝓛 f.ended stayed c).post z in let κ = z.0.0.0 in let q = z.0.1.0 in
    let self = z.0.3.0 in let d = self.now in let b = self.ref_ptr.0 in let o = self.ref_ptr.1 in let others = z.0.3.1.0 in
    qed 𝓛 (((‵ (flft κ q) ⊛ ‵ ftrue) ⊛ ‵ (fsep ((MutRef (named 0) κ N).own_val self z.0.4.0) (fsep (N.own_val others z.0.4.1.0) ftrue))) ∷ ‵ ftrue ∷ []) ∵
    split ! $ split ! $ move ! (2 ∷ []) $ fsplit3 ! $ fsplit3 ! $ feq_l ! (λ e. move ! (2 ∷ []) $ nodes_had ! others z.0.4.1.0 (λ ws.
    regoal ! (λ (us : List Val). prop (WpFn 𝓤 H 𝓣.C 𝓣.Λ fn us Post)) (λ j. e j ++ (ws j ++ [])) refl $
    -- [the others; self, in two parts; the token]
    keep ! (0 ∷ 1 ∷ 2 ∷ 4 ∷ []) $
    enter ! 𝓣.C 𝓣.Λ fn (vptr b o ∷ no_word ∷ []) Post $
    alloc_all ! (λ l. pass_all ! refl ((tt, tt), ((tt, tt), tt)) $
    sets ! (of_opd ! (unit_lit !)) refl (tt, tt) $
    move ! (1 ∷ 2 ∷ 3 ∷ []) $ opens ! tt N b o (λ us. move ! (1 ∷ []) $ fsplit ! $ move ! (6 ∷ 1 ∷ []) $
    let new : N.Denot = record { cells = others.cells ++ d.cells } in
    use2 𝓛 (‵ (nodes_own new.cells)) (joined 𝓛 others.cells d.cells) $ move ! (1 ∷ 0 ∷ []) $ fjoin ! $ move ! (1 ∷ []) $ closes ! tt N new us b o $
    returns ! (look_at ! 0 refl) $ free_all ! refl $ keep ! (0 ∷ 1 ∷ 2 ∷ []) $
    feq_i ! (List Val) z.0.4.0 (vptr b o ∷ []) e $ fjoin3 ! $ nothing ! $ nothing ! $ fjoin ! $ move ! (1 ∷ 0 ∷ []) $ fjoin ! $
    suffices ! _ (ends_at 𝓛 f.ended stayed c z vunit tt (new, (tt, tt)) (tt, (tt, tt))) $ says ! refl $
    feq_i ! _ (vunit ∷ []) _ refl $ move ! (1 ∷ 0 ∷ []) $ join ! $ nothing ! $ move ! (2 ∷ 0 ∷ []) $ join ! $ join ! $ done !)))))
