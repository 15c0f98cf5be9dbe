-- `put_together` takes the block's nodes out, and gives the right to free it up. Assumes `Logic`.
use Rattle.std.proofs.Common.{◌≡◌, ℕ, ◌-◌, ◌^◌, ◌<◌, List, [], ◌∷◌, ◌++◌, length, map, take, drop, IsPermutation, refl, subst, sym, arith}
use Rattle.std.proofs.lemmas.List.{length-map}
use Rattle.std.proofs.lemmas.List.{take-append-drop}
use mir.MapTy.{inst_fn}
use mir.Syntax.{Fn, Args, named, a_number}
use mir.Val.{Val, vptr}
use base.Logic.{SProp}
use base.Fraction.{full_share}
use base.Fml.{ftrue, fsep, flft}
use contract.BorrowLft.{◌⊑◌}
use contract.Monad.{fact}
use contract.Running.{tables}
use prog.Memory.{size}
use prog.Wp.{WpFn}
use types.Kit.{‵, raw, ◌⊛◌, prop, ◌$◌, ◌∵◌, !, qed, done, move, keep, drop as lost, use1, split, split3, join, fsplit, fsplit3, fjoin, fjoin3, feq_i, feq_l, rewrite, regoal, suffices}
use types.Part.{whole, sub, agg}
use types.Run.{stop, fld, of_opd, no_more, and_then, returns, enter}
use types.ByLocal.{alloc_all, pass_all, free_all, look_at, get, get_in, sets}
use denote.ArrayMemory.{Array-whole}
use denote.Exit.{yes}
use denote.Param.{param, number, layout, layouts, ArrayAt}
use denote.RattleType.{RattleType}
use denote.RawPtr.{Ptr, block_ptr, lies_at, ◌+ₚ◌}
use denote.Ref.{MutRef}
use denote.Signature.{plain}
use denote.Steps.{nothing, heard, opens, closes}
use denote.Triple.Clauses.{Ended}
use denote.Triple.Walked.{Stays, stay_dropped, stay_ref, walk_of, Goes-dropped, Goes-ref, says, ends_at}
use Rattle.std.proofs.alloc.Calls.{Goes-blank, handle_tells}
use Rattle.std.proofs.raw_atomic.Walks.{proved_at}
use Rattle.std.specs.contracts.alloc.Global as global
use Rattle.std.proofs.alloc.Global.TheLaws as global_laws
use Rattle.std.specs.contracts.impls.GlobalAllocator.TheImpl.{ghosts}
use Rattle.interval_list.proofs.LooseValues.{both, al, loose_good, loose_in}
use Rattle.interval_list.proofs.Owned.{arranged, parted}
use Rattle.interval_list.proofs.Rows.{row_cells, lined_up, row_whole, row-again, length-row, in_order, places-front, places-behind}
use Rattle.interval_list.proofs.Values.{N, B, L, word, word_good, lone_had}
use Rattle.interval_list.specs.Blocks.{Block, IsNewest, node_size, body, bodies}
use Rattle.interval_list.specs.Cells.{Cell, places}
use Rattle.interval_list.specs.Ownership.{nodes_own, rights_own}
use Rattle.interval_list.specs.contracts.node.Node as node
use Rattle.interval_list.specs.declared.node.Node.{Node}
use Rattle.interval_list.specs.contracts.blocks.Blocks.put_together as f
use Rattle.interval_list.proofs.blocks.Blocks.put_together.Statement.{statement}
use Rattle.interval_list.proofs.blocks.Blocks.put_together.Code as code

module _ (n : ℕ) where
  -- a block of n nodes
  abbrev Arr : RattleType
  Arr = ArrayAt node.the_row (param 0 (number n))

  abbrev inst : Args
  inst = layouts (a_number ∷ []) (number n, tt)

  abbrev ended : Ended
  ended = f.ended (number n)

  abbrev stayed : Stays ended.signature.params ended.kept
  stayed = (stay_ref (0 ∷ []) tt (plain (λ _. B)), (stay_dropped (plain (λ _. global.the_row)) yes, (stay_dropped (plain (λ _. L)) yes, (stay_ref (1 ∷ []) tt (plain (λ _. N)), tt))))

pub put_together_spec : {M : Type 1} → statement M
put_together_spec 𝓤 𝓛 𝓜 𝓡 wired n small =
    let H = 𝓛.H in let 𝓣 = tables 𝓤 H 𝓜 𝓡 𝓡.env in let c = f.clauses (number n) 𝓛 𝓜.mem 𝓡.returns in let fn : Fn = inst_fn (inst n) code.function in let hs = stayed n in
    proved_at 𝓛 (ended n) hs c 𝓜 𝓡
    (Goes-ref 𝓛 3 0 tt (plain (λ _. B)), (Goes-dropped 𝓛 3 (plain (λ _. global.the_row)) yes (λ κs x w. refl), (Goes-blank 𝓛 3 (plain (λ _. L)) yes (λ κs x w. tt), (Goes-ref 𝓛 3 1 tt (plain (λ _. N)), tt))))
    (f.Key.name (inst n)) fn (code.unfolded 𝓤 H 𝓜 𝓡 wired (number n, tt)) (λ z are.
    let Post : Val → SProp 𝓤 = (walk_of 𝓛 (ended n) hs c).post z in let κs = z.0.0 in let qs = z.0.1 in
    let self = z.0.3.0 in let d = self.now in let b = self.ref_ptr.0 in let o = self.ref_ptr.1 in let alloc = z.0.3.1.0 in let v = z.0.3.1.1.0 in
    let nodes = z.0.3.1.1.1.0 in let ds = nodes.now in let nb = nodes.ref_ptr.0 in let no = nodes.ref_ptr.1 in
    let rest : List Block = drop 1 d.blocks in let Asked : Ptr → Type 0 = λ p. (0 < n) × IsNewest (p, n) d.blocks ds.cells in
    qed 𝓛 (((‵ (flft κs.0 qs.0) ⊛ ‵ (flft κs.1.0 qs.1.0) ⊛ (‵ (flft κs.1.1.0 qs.1.1.0) ⊛ ‵ ftrue)) ⊛
    ‵ (fsep ((MutRef (named 0) κs.0 B).own_val self z.0.4.0) (fsep (global.the_row.own_val alloc z.0.4.1.0) (fsep (L.own_val v z.0.4.1.1.0) (fsep ((MutRef (named 1) κs.1.0 N).own_val nodes z.0.4.1.1.1.0) ftrue))))) ∷
    (raw (fact 𝓤 (κs.1.1.0 ⊑ [])) ⊛ raw (fact 𝓤 (size (layout (Arr n)) < 2 ^ 63)) ⊛ raw (fact 𝓤 (Asked v.at))) ∷ []) ∵
    move ! (1 ∷ []) $ split3 ! $ lost ! $ lost ! $ heard ! (Asked v.at) (λ asked. split ! $ split3 ! $ move ! (3 ∷ []) $
    fsplit3 ! $ fsplit3 ! $ feq_l ! (λ e. move ! (3 ∷ []) $ fsplit3 ! $ move ! (1 ∷ []) $ fsplit3 ! $ feq_l ! (λ e'. move ! (2 ∷ []) $
    lone_had ! v z.0.4.1.1.0 (λ lb lo at ws. move ! (6 ∷ []) $
    handle_tells (al (Arr n) global.the_row global_laws.the_row_laws ghosts) ! alloc z.0.4.1.0 (λ h h_is fits.
    regoal ! (λ (us : List Val). prop (WpFn 𝓤 H 𝓣.C 𝓣.Λ fn us Post)) (λ j. e j ++ (h_is j ++ (ws j ++ (e' j ++ [])))) refl $
    -- [the handle; the head; the nodes, in two parts; self, in two parts; the tokens]
    keep ! (0 ∷ 1 ∷ 2 ∷ 3 ∷ 5 ∷ 6 ∷ 7 ∷ 8 ∷ 9 ∷ []) $
    let here : Ptr = block_ptr lb lo in let known : Asked here = subst Asked at asked in
    let ps : List Ptr = body (here, n) in let got = in_order ds.cells (ps ++ bodies rest) (subst (λ bs. IsPermutation (places ds.cells) (bodies bs)) known.1.0 known.1.1) in let es : List Cell = got.cells in
    let front : List Cell = take (length ps) es in let back : List Cell = drop (length ps) es in let ns : List Node = map (λ (x : Cell). x.1) front in let xs : List Node = v.node ∷ ns in
    let front_at : places front ≡ ps = places-front ps (bodies rest) es got.lie in
    let row : row_cells (here +ₚ node_size) ns ≡ front = row-again (here +ₚ node_size) (n - 1) front front_at in
    let long : length xs ≡ n = omega (arith, length-map front (λ (x : Cell). x.1), length-row (here +ₚ node_size) (n - 1) front front_at, known.0) in
    let made = loose_good (Arr n) global.the_row global_laws.the_row_laws ghosts lb lo h fits in
    enter ! 𝓣.C 𝓣.Λ fn (vptr b o ∷ h ∷ word here ∷ vptr nb no ∷ []) Post $
    alloc_all ! (λ l. pass_all ! refl ((tt, tt), (fits, (word_good here, ((tt, tt), tt)))) $
    sets ! (of_opd ! (get_in ! (fld ! refl (stop !)) (sub ! 0 refl (whole !)))) refl (tt, tt) $
    sets ! (of_opd ! (get ! refl)) refl (tt, tt) $
    sets ! (agg ! (and_then ! (get ! refl) (and_then ! (get ! refl) (no_more !)))) refl made $
    move ! (2 ∷ 3 ∷ 7 ∷ []) $ opens ! tt N nb no (λ us. move ! (1 ∷ []) $ fsplit ! $ move ! (1 ∷ []) $
    let fewer : N.Denot = record { cells = back } in
    use1 𝓛 (‵ (nodes_own es)) (arranged 𝓛 ds.cells es got.same) $ rewrite ! 0 (λ (l : List Cell). ‵ (nodes_own l)) (sym (take-append-drop (length ps) es)) refl $
    use1 𝓛 (‵ (nodes_own front) ⊛ ‵ (nodes_own back)) (parted 𝓛 front back) $ split ! $
    -- [the body; the other nodes; the fields; the cell; the open borrow; the handle; the head; self, in two parts; the other tokens]
    move ! (2 ∷ 1 ∷ []) $ fjoin ! $ move ! (2 ∷ 0 ∷ 3 ∷ 4 ∷ 5 ∷ []) $ closes ! tt N fewer us nb no $
    move ! (6 ∷ 7 ∷ 8 ∷ []) $ opens ! tt B b o (λ us'. move ! (1 ∷ []) $ fsplit ! $ move ! (1 ∷ []) $
    let new : B.Denot = record { blocks = rest } in
    rewrite ! 0 (λ (bs : List Block). ‵ (rights_own bs)) known.1.0 refl $ fsplit ! $
    -- [the right to free the block; the other rights; the fields; the cell; the open borrow; the nodes, in two parts; their token; the body; the handle; the head; the last token]
    move ! (2 ∷ 1 ∷ []) $ fjoin ! $ move ! (2 ∷ 0 ∷ 3 ∷ 4 ∷ 5 ∷ []) $ closes ! tt B new us' b o $
    -- [self, in two parts; its token; the right; the nodes, in two parts; their token; the body; the handle; the head; the last token]
    move ! (9 ∷ 7 ∷ []) $ rewrite ! 1 (λ (l : List Cell). ‵ (nodes_own l)) (sym row) refl $ fjoin ! $
    use1 𝓛 (‵ (lined_up xs lb lo)) (row_whole 𝓛 lb xs lo) $ feq_i ! ℕ (length xs) n long $ fjoin ! $
    use1 𝓛 (‵ (lies_at (Arr n) full_share here xs)) (Array-whole 𝓛 node.the_row full_share n xs lb lo) $
    move ! (0 ∷ 4 ∷ []) $ fjoin ! $ move ! (0 ∷ 7 ∷ []) $ loose_in (Arr n) global.the_row global_laws.the_row_laws ghosts ! lb lo h alloc xs $
    -- [the block; self, in two parts; its token; the nodes, in two parts; their token; the last token]
    returns ! (look_at ! 0 refl) $ free_all ! refl $
    move ! (4 ∷ 5 ∷ []) $ feq_i ! (List Val) z.0.4.1.1.1.0 (vptr nb no ∷ []) e' $ fjoin3 ! $ nothing ! $ move ! (1 ∷ 0 ∷ []) $ fjoin ! $ nothing ! $ fjoin ! $ nothing ! $ fjoin ! $
    move ! (2 ∷ 3 ∷ []) $ feq_i ! (List Val) z.0.4.0 (vptr b o ∷ []) e $ fjoin3 ! $ fjoin ! $
    suffices ! _ (ends_at 𝓛 (ended n) hs c z (both (vptr lb lo) h) (record { at = here; alloc = alloc; value = xs }) (new, (tt, (tt, (fewer, tt)))) (tt, (tt, (tt, (tt, tt))))) $
    says ! (refl, places-behind ps (bodies rest) es got.lie) $
    join ! $ move ! (2 ∷ 3 ∷ []) $ join ! $ move ! (2 ∷ 0 ∷ []) $ join ! $ join ! $ done !)))))))))
