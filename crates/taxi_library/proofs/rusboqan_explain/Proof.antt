-- The counter is lent for the call, and comes back.
use Rattle.std.proofs.Common.{w64, ℕ, List, [], ◌∷◌, ◌++◌, length, refl, sym, ap, ◌∙◌, subst}
use base.Fraction.{full_share}
use base.Logic.{SProp, ent, sep, ex, ex_i, id⊢, never, fst∗, emp}
use base.Fml.{ftrue, flft, flent, GName}
use mir.Syntax.{named}
use mir.Raw.{raw as bare}
use mir.Val.{Val, vptr}
use prog.Wp.{WpFn}
use contract.Monad.{fact, fact_i}
use contract.Running.{tables}
use types.Logic.{sem}
use types.Kit.{‵, raw, ◌⊛◌, some, later, ◌$◌, ◌∵◌, !, qed, by, move, keep, split, join, fsplit, fjoin, feq_l, pick, use0, use1, use2, use3, await, rewrite, suffices}
use types.Run.{enter, of_opd, addr, stop, no_more, and_then, returns}
use types.ByLocal.{alloc_all, pass_all, free_all, look_at, get, through, sets, lands_as}
use types.SemTy.{Body}
use types.Tokens.{lft_new, lft_end}
use denote.Builtin.{u8, usize, RawPtr, SliceRefOf}
use denote.Exit.{yes}
use denote.Laws.{Is, shows}
use denote.Lend.{lends_ref, ref_back}
use denote.Memory.{mem, lone}
use denote.RattleType.{owns}
use denote.RawPtr.{Ptr, block_ptr, null_ptr, ptr_val, lies_at, in_a_block}
use denote.Plain.{uint_Lawful}
use denote.Ref.{MutRef}
use denote.Signature.{plain, types_at}
use denote.Slice.{ShrSlice, slice_val}
use denote.Steps.{nothing, heard, peeks}
use denote.Triple.Call.{calls_at}
use denote.Triple.Clauses.{Lasts, lasts}
use denote.Triple.Spec.{triple_of}
use denote.Triple.Table.{framed}
use denote.Triple.Walked.{Stays, stay_dropped, Goes-dropped, walk_of}
use Rattle.std.proofs.raw_atomic.Walks.{proved_at, leaves}
use Rattle.std.specs.contracts.impls.GlobalAllocator.TheImpl.{ghosts}
use Rattle.engine_texts.specs.contracts.session.Session.{the_row as R}
use Rattle.taxi_library.specs.Calls.{IsExplanationAsked}
use Rattle.taxi_library.specs.Open.{heap, holds}
use Rattle.taxi_library.specs.contracts.rusboqan_explain as f
use Rattle.taxi_library.specs.contracts.rusboqan_explain.Key.{name as #self}
use Rattle.taxi_library.proofs.rusboqan_explain.Statement.{statement}
use Rattle.taxi_library.proofs.rusboqan_explain.Code as code
use Rattle.taxi_library.specs.contracts.asked.explanation_told as g
use Rattle.taxi_library.proofs.asked.explanation_told.Met.{met}

abbrev stayed : Stays f.ended.signature.params f.ended.kept
stayed = (stay_dropped (plain (λ _. RawPtr)) yes, (stay_dropped (SliceRefOf (0 ∷ []) tt (plain (λ _. u8)) (λ _. tt)) yes, tt))

pub rusboqan_explain_spec : {M : Type 1} → statement M
rusboqan_explain_spec 𝓤 𝓛 𝓜 𝓡 wired =
    let H = 𝓛.H in let 𝓣 = tables 𝓤 H 𝓜 𝓡 𝓡.env in let c = f.clauses 𝓛 𝓜.mem 𝓡.returns in
    proved_at 𝓛 f.ended stayed c 𝓜 𝓡 (Goes-dropped 𝓛 1 (plain (λ _. RawPtr)) yes (λ κs x w. refl), (Goes-dropped 𝓛 1 (SliceRefOf (0 ∷ []) tt (plain (λ _. u8)) (λ _. tt)) yes (λ κs x w. refl), tt))
    #self code.function (code.unfolded 𝓤 H 𝓜 𝓡 wired) (λ z are.
    let κ = z.0.0.0 in let q = z.0.1.0 in let p = z.0.3.0 in let s = z.0.3.1.0 in let x = z.1 in let Post : Val → SProp 𝓤 = (walk_of 𝓛 f.ended stayed c).post z in let Run : List Val → SProp 𝓤 = λ ws. WpFn 𝓤 H 𝓣.C 𝓣.Λ code.function ws Post in
    qed 𝓛 (((‵ (flft κ q) ⊛ ‵ ftrue) ⊛ ‵ (owns (types_at f.signature.params z.0.0) z.0.3 z.0.4)) ∷ ‵ (holds p x) ∷ []) ∵
    split ! $ split ! $ move ! (2 ∷ []) $ fsplit ! $ feq_l ! (λ ep. fsplit ! $ rewrite ! 0 (λ (ws : List Val). ‵ ((ShrSlice (named 0) κ u8).own_val s ws)) are.1.0.0.0 refl $ move ! (4 ∷ []) $
    in_a_block ! p (λ π. holds π x) (fst∗ 𝓤 (never 𝓤) (sem 𝓛 (ghosts.dealloc_token heap (bare (lone R.mir)) null_ptr))) (λ b o e.
    let w : Val = slice_val s.ref_ptr (length s.now) in let us : List Val = vptr b o ∷ w ∷ [] in
    suffices ! (Run us) (subst (λ (ws : List Val). ent 𝓤 (Run us) (Run ws)) (sym (λ i. (ep ∙ ap (λ (π : Ptr). ptr_val π ∷ []) e) i ++ (are.1.0.0.0 i ++ []))) (id⊢ 𝓤 (Run us))) $
    enter ! 𝓣.C 𝓣.Λ code.function us Post $ alloc_all ! (λ l. pass_all ! refl ((tt, tt), ((tt, (tt, (record { fits = are.1.0.0.1.0 }, tt))), tt)) $
    -- [the box; the bytes; nothing; the token; nothing]
    sets ! (of_opd ! (get ! refl)) refl (tt, tt) $
    sets ! (addr ! (through ! refl (stop !))) refl (tt, tt) $
    fsplit ! $ lft_new ! tt (λ α. move ! (1 ∷ []) $
    use1 𝓛 (later (some (λ (γ : GName). ‵ ((MutRef (named 0) (α ∷ []) R).own_val (record { ref_ptr = (b, o); ghost_name = γ; now = x }) (vptr b o ∷ [])) ⊛ ‵ (flent (α ∷ []) (Body (mem R) b o γ))))) (lends_ref 𝓛 R (named 0) (α ∷ []) x b o) $
    await ! tt $ pick ! (λ γ. split ! $
    -- [the reference; the lender's part; the token of α; the chunk; the bytes; nothing; the token; nothing]
    let G = triple_of 𝓛 g.signature (g.spec 𝓛 𝓜.mem 𝓡.returns) in
    let y : G.Ghost = (((α ∷ [], (κ, tt)), (full_share, (q, tt)), tt, (record { ref_ptr = (b, o); ghost_name = γ; now = x }, (s, tt)), (vptr b o ∷ [], (w ∷ [], tt))), tt) in
    nothing ! $ move ! (5 ∷ 0 ∷ []) $ join ! $ move ! (1 ∷ 0 ∷ []) $ join ! $
    nothing ! $ move ! (6 ∷ 0 ∷ []) $ join ! $ move ! (3 ∷ 0 ∷ []) $ join ! $ join ! $
    nothing ! $ move ! (1 ∷ 0 ∷ []) $ use2 𝓛 (raw (G.pre y)) (id⊢ 𝓤 _) $
    calls_at ! (framed 𝓤 H 𝓜 𝓣) G (met 𝓤 𝓛 𝓜 𝓡 (code.calls-taxi_library::asked::explanation_told 𝓡.env wired)) y (and_then ! (get ! refl) (and_then ! (get ! refl) (no_more !))) (λ v.
    use1 𝓛 (later (some (λ (r : ℕ). ((‵ (flft (α ∷ []) full_share) ⊛ ‵ (flft κ q) ⊛ ‵ ftrue) ⊛ ‵ (usize.own_val r (v ∷ []))) ⊛
    some (λ (ws : Lasts g.ended y.0.0 y.0.3). ‵ (lasts g.ended y.0.0 y.0.3 ws) ⊛ raw (fact 𝓤 (IsExplanationAsked s.now x ws.0 r)))))) (id⊢ 𝓤 _) $
    await ! tt $ pick ! (λ r. split ! $ split ! $ split ! $ lft_end ! tt $ move ! (3 ∷ []) $ pick ! (λ ws. split ! $ move ! (1 ∷ []) $ heard ! _ (λ said. fsplit ! $ fsplit ! $
    -- [the last value; its borrow; nothing; α is over; the token; the result; the lender's part; the chunk; nothing; nothing]
    move ! (3 ∷ 6 ∷ 0 ∷ []) $ use3 𝓛 (later (‵ (lies_at R full_share (block_ptr b o) ws.0))) (ref_back 𝓛 R (α ∷ []) γ ws.0 b o) $ await ! tt $
    -- [the counter; its borrow; nothing; the token; the result; the chunk; nothing; nothing]
    move ! (0 ∷ 5 ∷ []) $ fjoin ! $ rewrite ! 0 (λ (π : Ptr). ‵ (holds π ws.0)) (sym e) refl $
    let Said : Type 0 = IsExplanationAsked s.now x ws.0 r in let After : R.Denot → SProp 𝓤 = λ after. sep 𝓤 (sem 𝓛 (holds p after)) (fact 𝓤 (IsExplanationAsked s.now x after r)) in
    use0 𝓛 (raw (fact 𝓤 Said)) (fact_i 𝓤 Said (emp 𝓤) said) $ move ! (1 ∷ 0 ∷ []) $ use2 𝓛 (raw (ex 𝓤 After)) (ex_i 𝓤 After ws.0) $
    -- [the counter behind its handle; its borrow; nothing; the token; the result; nothing; nothing]
    move ! (4 ∷ []) $ peeks ! usize (Is usize) (shows 𝓛 usize) r (v ∷ []) (λ is.
    lands_as ! refl refl ((uint_Lawful 𝓛 w64).typed r _ is).0 $
    nothing ! $ nothing ! $ fjoin ! $ nothing ! $ fjoin ! $
    returns ! (look_at ! 0 refl) $ free_all ! refl $
    -- [nothing of the parameters; the result; the counter behind its handle; its borrow; nothing; the token; ..]
    keep ! (5 ∷ 0 ∷ 1 ∷ 2 ∷ []) $ by ! (leaves 𝓛 f.ended stayed c z v r (tt, (tt, tt)) (tt, (tt, tt))))))))))))))
