-- `take_apart` keeps the right to free the block, and hands its nodes on. Assumes `Logic`.
use Rattle.std.proofs.Common.{ℕ, ◌^◌, ◌<◌, List, [], ◌∷◌, ◌++◌, length, refl, ap, ◌∙◌, subst, sym}
use Rattle.std.proofs.lemmas.List.{map-append}
use mir.MapTy.{inst_fn}
use mir.Syntax.{Fn, Args, named, a_number}
use mir.Val.{Val, vptr}
use base.Logic.{SProp}
use base.Fraction.{full_share}
use base.Fml.{ftrue, fsep, feq, flft}
use contract.BorrowLft.{◌⊑◌}
use contract.Monad.{fact}
use contract.Running.{tables}
use prog.Memory.{size}
use prog.Wp.{WpFn}
use types.Kit.{‵, raw, ◌⊛◌, prop, ◌$◌, ◌∵◌, !, qed, done, move, keep, drop, use1, use2, split, split3, join, fsplit, fsplit3, fjoin, fjoin3, feq_i, feq_l, rewrite, regoal, suffices}
use types.Part.{whole, sub, agg}
use types.Run.{stop, fld, of_opd, no_more, and_then, returns, enter}
use types.ByLocal.{alloc_all, pass_all, free_all, look_at, get, get_in, sets}
use denote.ArrayMemory.{Array-apart}
use denote.Exit.{yes}
use denote.Param.{param, number, layout, layouts, ArrayAt}
use denote.RattleType.{RattleType}
use denote.RawPtr.{Ptr, block_ptr}
use denote.Ref.{MutRef}
use denote.Signature.{plain}
use denote.Steps.{nothing, heard, opens, closes}
use denote.Triple.Clauses.{Ended}
use denote.Triple.Walked.{Stays, stay_dropped, stay_ref, walk_of, Goes-ref, says, ends_at}
use Rattle.std.proofs.alloc.Calls.{Goes-blank}
use Rattle.std.proofs.raw_atomic.Walks.{proved_at}
use Rattle.std.specs.contracts.alloc.Global as global
use Rattle.std.proofs.alloc.Global.TheLaws as global_laws
use Rattle.std.specs.contracts.impls.GlobalAllocator.TheImpl.{ghosts}
use Rattle.interval_list.proofs.LooseValues.{both, loose_good, loose_out}
use Rattle.interval_list.proofs.Owned.{one, taken_out, joined}
use Rattle.interval_list.proofs.Rows.{row_cells, lined_up, row_apart, row-first, row-body}
use Rattle.interval_list.proofs.Values.{N, B, word, lone_made}
use Rattle.interval_list.specs.Cells.{Cell, places, place_of, node_of}
use Rattle.interval_list.specs.Edits.{removed}
use Rattle.interval_list.specs.Ownership.{nodes_own}
use Rattle.interval_list.specs.contracts.loose.Loose as loose
use Rattle.interval_list.specs.contracts.node.Node as node
use Rattle.interval_list.specs.declared.node.Node.{Node}
use Rattle.interval_list.specs.contracts.blocks.Blocks.take_apart as f
use Rattle.interval_list.proofs.blocks.Blocks.take_apart.Statement.{statement}
use Rattle.interval_list.proofs.blocks.Blocks.take_apart.Code as code

module _ (n : ℕ) where
  -- a block of n nodes, and one as its pointer
  abbrev Arr : RattleType
  Arr = ArrayAt node.the_row (param 0 (number n))

  abbrev A : RattleType
  A = loose.the_row Arr global.the_row ghosts

  abbrev inst : Args
  inst = layouts (a_number ∷ []) (number n, tt)

  abbrev ended : Ended
  ended = f.ended (number n)

  abbrev stayed : Stays ended.signature.params ended.kept
  stayed = (stay_ref (0 ∷ []) tt (plain (λ _. B)), (stay_dropped (plain (λ _. A)) yes, (stay_ref (1 ∷ []) tt (plain (λ _. N)), tt)))

pub take_apart_spec : {M : Type 1} → statement M
take_apart_spec 𝓤 𝓛 𝓜 𝓡 wired n small =
    let H = 𝓛.H in let 𝓣 = tables 𝓤 H 𝓜 𝓡 𝓡.env in let c = f.clauses (number n) 𝓛 𝓜.mem 𝓡.returns in let fn : Fn = inst_fn (inst n) code.function in let hs = stayed n in
    proved_at 𝓛 (ended n) hs c 𝓜 𝓡
    (Goes-ref 𝓛 3 0 tt (plain (λ _. B)), (Goes-blank 𝓛 3 (plain (λ _. A n)) yes (λ κs x w. tt), (Goes-ref 𝓛 3 1 tt (plain (λ _. N)), tt)))
    (f.Key.name (inst n)) fn (code.unfolded 𝓤 H 𝓜 𝓡 wired (number n, tt)) (λ z are.
    let Post : Val → SProp 𝓤 = (walk_of 𝓛 (ended n) hs c).post z in let κs = z.0.0 in let qs = z.0.1 in
    let self = z.0.3.0 in let d = self.now in let b = self.ref_ptr.0 in let o = self.ref_ptr.1 in let v = z.0.3.1.0 in
    let nodes = z.0.3.1.1.0 in let ds = nodes.now in let nb = nodes.ref_ptr.0 in let no = nodes.ref_ptr.1 in
    qed 𝓛 (((‵ (flft κs.0 qs.0) ⊛ ‵ (flft κs.1.0 qs.1.0) ⊛ (‵ (flft κs.1.1.0 qs.1.1.0) ⊛ ‵ ftrue)) ⊛
    ‵ (fsep ((MutRef (named 0) κs.0 B).own_val self z.0.4.0) (fsep ((A n).own_val v z.0.4.1.0) (fsep ((MutRef (named 1) κs.1.0 N).own_val nodes z.0.4.1.1.0) ftrue)))) ∷
    (raw (fact 𝓤 (κs.1.1.0 ⊑ [])) ⊛ raw (fact 𝓤 (size (layout (Arr n)) < 2 ^ 63)) ⊛ raw (fact 𝓤 (0 < n))) ∷ []) ∵
    move ! (1 ∷ []) $ split3 ! $ drop ! $ drop ! $ heard ! (0 < n) (λ some. split ! $ split3 ! $ move ! (3 ∷ []) $
    fsplit3 ! $ fsplit3 ! $ feq_l ! (λ e. move ! (3 ∷ []) $ fsplit ! $ fsplit3 ! $ feq_l ! (λ e'. move ! (5 ∷ []) $
    loose_out (Arr n) global.the_row global_laws.the_row_laws ghosts ! v z.0.4.1.0 (λ lb lo h at ws fits.
    regoal ! (λ (us : List Val). prop (WpFn 𝓤 H 𝓣.C 𝓣.Λ fn us Post)) (λ j. e j ++ (ws j ++ (e' j ++ []))) refl $
    -- [the block; the nodes, in two parts; self, in two parts; the tokens]
    keep ! (0 ∷ 2 ∷ 3 ∷ 5 ∷ 6 ∷ 7 ∷ 8 ∷ 9 ∷ []) $
    enter ! 𝓣.C 𝓣.Λ fn (vptr b o ∷ both (vptr lb lo) h ∷ vptr nb no ∷ []) Post $
    alloc_all ! (λ l. pass_all ! refl ((tt, tt), (loose_good (Arr n) global.the_row global_laws.the_row_laws ghosts lb lo h fits, ((tt, tt), tt))) $
    sets ! (of_opd ! (get_in ! (fld ! refl (stop !)) (sub ! 0 refl (whole !)))) refl (tt, tt) $
    sets ! (of_opd ! (get ! refl)) refl (tt, tt) $
    sets ! (agg ! (and_then ! (get ! refl) (no_more !))) refl (tt, (tt, tt)) $
    let here : Ptr = block_ptr lb lo in let xs : List Node = v.value in let cs : List Cell = row_cells here xs in let body : List Cell = removed cs 0 in let first : Node = node_of cs 0 in
    fsplit ! $ use1 𝓛 (‵ (fsep (feq ℕ (length xs) n) (lined_up xs lb lo))) (Array-apart 𝓛 node.the_row full_share tt n xs lb lo) $ fsplit ! $ feq_l ! (λ long.
    use1 𝓛 (‵ (nodes_own cs)) (row_apart 𝓛 lb xs lo) $
    let begins = row-first here xs (subst (λ k. 0 < k) (sym long) some) in
    use1 𝓛 (‵ (one (place_of cs 0) first) ⊛ ‵ (nodes_own body)) (taken_out 𝓛 cs 0 begins.0) $ split ! $ rewrite ! 0 (λ (p : Ptr). ‵ (one p first)) begins.1 refl $
    -- [the head; the body; the right to free the block; the nodes, in two parts; self, in two parts; the tokens]
    move ! (3 ∷ 4 ∷ 8 ∷ []) $ opens ! tt N nb no (λ us. move ! (1 ∷ []) $ fsplit ! $ move ! (7 ∷ 1 ∷ []) $
    let more : N.Denot = record { cells = body ++ ds.cells } in
    use2 𝓛 (‵ (nodes_own more.cells)) (joined 𝓛 body ds.cells) $ move ! (1 ∷ 0 ∷ []) $ fjoin ! $ move ! (1 ∷ []) $ closes ! tt N more us nb no $
    -- [the nodes, in two parts; their token; the head; the right to free the block; self, in two parts; the other tokens]
    move ! (5 ∷ 6 ∷ 7 ∷ []) $ opens ! tt B b o (λ us'. move ! (1 ∷ []) $ fsplit ! $ move ! (10 ∷ 1 ∷ []) $
    let new : B.Denot = record { blocks = (here, n) ∷ d.blocks } in
    fjoin ! $ move ! (1 ∷ 0 ∷ []) $ fjoin ! $ move ! (1 ∷ []) $ closes ! tt B new us' b o $
    -- [self, in two parts; its token; the nodes, in two parts; their token; the head; the last token]
    returns ! (look_at ! 0 refl) $ free_all ! refl $ move ! (6 ∷ []) $ lone_made ! lb lo first $
    move ! (4 ∷ 5 ∷ []) $ feq_i ! (List Val) z.0.4.1.1.0 (vptr nb no ∷ []) e' $ fjoin3 ! $ nothing ! $ move ! (1 ∷ 0 ∷ []) $ fjoin ! $ nothing ! $ fjoin ! $
    move ! (2 ∷ 3 ∷ []) $ feq_i ! (List Val) z.0.4.0 (vptr b o ∷ []) e $ fjoin3 ! $ fjoin ! $
    suffices ! _ (ends_at 𝓛 (ended n) hs c z (word here) (record { at = here; node = first }) (new, (tt, (more, tt))) (tt, (tt, (tt, tt)))) $
    says ! (tt, refl, map-append (λ (x : Cell). x.0) body ds.cells ∙ ap (λ ps. ps ++ places ds.cells) (row-body here xs n long)) $
    join ! $ move ! (2 ∷ 3 ∷ []) $ join ! $ move ! (2 ∷ 0 ∷ []) $ join ! $ join ! $ done !)))))))))
