-- The counter is lent for the call, and comes back.
use Rattle.std.proofs.Common.{w64, ℕ, List, [], ◌∷◌, ◌++◌, refl, sym, ap, ◌∙◌, subst}
use base.Fraction.{full_share}
use base.Logic.{SProp, ent, sep, ex, ex_i, id⊢, never, fst∗, emp}
use base.Fml.{ftrue, flft, flent, GName}
use mir.Syntax.{named}
use mir.Raw.{raw as bare}
use mir.Val.{Val, vptr}
use prog.Wp.{WpFn}
use contract.Monad.{fact, fact_i}
use contract.Running.{tables}
use types.Logic.{sem}
use types.Kit.{‵, raw, ◌⊛◌, some, later, ◌$◌, ◌∵◌, !, qed, by, move, keep, drop, split, join, fsplit, fjoin, feq_l, pick, use0, use1, use2, use3, await, rewrite, suffices}
use types.Run.{enter, of_opd, addr, stop, no_more, and_then, returns}
use types.ByLocal.{alloc_all, pass_all, free_all, look_at, get, through, sets, lands_as}
use types.SemTy.{Body}
use types.Tokens.{lft_new, lft_end}
use denote.Builtin.{usize, RawPtr}
use denote.Exit.{yes}
use denote.Laws.{Is, shows}
use denote.Lend.{lends_ref, ref_back}
use denote.Memory.{mem, lone}
use denote.RattleType.{owns}
use denote.RawPtr.{Ptr, block_ptr, null_ptr, ptr_val, lies_at, in_a_block}
use denote.Plain.{uint_Lawful}
use denote.Ref.{MutRef}
use denote.Signature.{plain, types_at}
use denote.Steps.{nothing, heard, peeks}
use denote.Triple.Call.{calls_at}
use denote.Triple.Clauses.{Lasts, lasts}
use denote.Triple.Spec.{triple_of}
use denote.Triple.Table.{framed}
use denote.Triple.Walked.{Stays, stay_dropped, Goes-dropped, walk_of}
use Rattle.std.proofs.raw_atomic.Walks.{proved_at, leaves}
use Rattle.std.specs.contracts.impls.GlobalAllocator.TheImpl.{ghosts}
use Rattle.engine_texts.specs.contracts.session.Session.{the_row as R}
use Rattle.taxi_library.specs.Calls.{AreFiguresAsked}
use Rattle.taxi_library.specs.Open.{heap, holds}
use Rattle.taxi_library.specs.contracts.rusboqan_figures as f
use Rattle.taxi_library.specs.contracts.rusboqan_figures.Key.{name as #self}
use Rattle.taxi_library.proofs.rusboqan_figures.Statement.{statement}
use Rattle.taxi_library.proofs.rusboqan_figures.Code as code
use Rattle.taxi_library.specs.contracts.asked.figures_told as g
use Rattle.taxi_library.proofs.asked.figures_told.Met.{met}

abbrev stayed : Stays f.ended.signature.params f.ended.kept
stayed = (stay_dropped (plain (λ _. RawPtr)) yes, tt)

pub rusboqan_figures_spec : {M : Type 1} → statement M
rusboqan_figures_spec 𝓤 𝓛 𝓜 𝓡 wired =
    let H = 𝓛.H in let 𝓣 = tables 𝓤 H 𝓜 𝓡 𝓡.env in let c = f.clauses 𝓛 𝓜.mem 𝓡.returns in
    proved_at 𝓛 f.ended stayed c 𝓜 𝓡 (Goes-dropped 𝓛 0 (plain (λ _. RawPtr)) yes (λ κs x w. refl), tt)
    #self code.function (code.unfolded 𝓤 H 𝓜 𝓡 wired) (λ z are.
    let p = z.0.3.0 in let x = z.1 in let Post : Val → SProp 𝓤 = (walk_of 𝓛 f.ended stayed c).post z in let Run : List Val → SProp 𝓤 = λ ws. WpFn 𝓤 H 𝓣.C 𝓣.Λ code.function ws Post in
    qed 𝓛 ((‵ ftrue ⊛ ‵ (owns (types_at f.signature.params z.0.0) z.0.3 z.0.4)) ∷ ‵ (holds p x) ∷ []) ∵
    split ! $ drop ! $ fsplit ! $ feq_l ! (λ ep. move ! (1 ∷ []) $
    in_a_block ! p (λ π. holds π x) (fst∗ 𝓤 (never 𝓤) (sem 𝓛 (ghosts.dealloc_token heap (bare (lone R.mir)) null_ptr))) (λ b o e.
    let us : List Val = vptr b o ∷ [] in
    suffices ! (Run us) (subst (λ (ws : List Val). ent 𝓤 (Run us) (Run ws)) (sym (λ i. (ep ∙ ap (λ (π : Ptr). ptr_val π ∷ []) e) i ++ [])) (id⊢ 𝓤 (Run us))) $
    enter ! 𝓣.C 𝓣.Λ code.function us Post $ alloc_all ! (λ l. pass_all ! refl ((tt, tt), tt) $
    -- [the box; nothing]
    sets ! (of_opd ! (get ! refl)) refl (tt, tt) $
    sets ! (addr ! (through ! refl (stop !))) refl (tt, tt) $
    fsplit ! $ lft_new ! tt (λ α. move ! (1 ∷ []) $
    use1 𝓛 (later (some (λ (γ : GName). ‵ ((MutRef (named 0) (α ∷ []) R).own_val (record { ref_ptr = (b, o); ghost_name = γ; now = x }) (vptr b o ∷ [])) ⊛ ‵ (flent (α ∷ []) (Body (mem R) b o γ))))) (lends_ref 𝓛 R (named 0) (α ∷ []) x b o) $
    await ! tt $ pick ! (λ γ. split ! $
    -- [the reference; the lender's part; the token of α; the chunk; nothing]
    let G = triple_of 𝓛 g.signature (g.spec 𝓛 𝓜.mem 𝓡.returns) in
    let y : G.Ghost = (((α ∷ [], tt), (full_share, tt), tt, (record { ref_ptr = (b, o); ghost_name = γ; now = x }, tt), (vptr b o ∷ [], tt)), tt) in
    nothing ! $ move ! (1 ∷ 0 ∷ []) $ join ! $ nothing ! $ move ! (3 ∷ 0 ∷ []) $ join ! $ join ! $
    nothing ! $ move ! (1 ∷ 0 ∷ []) $ use2 𝓛 (raw (G.pre y)) (id⊢ 𝓤 _) $
    calls_at ! (framed 𝓤 H 𝓜 𝓣) G (met 𝓤 𝓛 𝓜 𝓡 (code.calls-taxi_library::asked::figures_told 𝓡.env wired)) y (and_then ! (get ! refl) (no_more !)) (λ v.
    use1 𝓛 (later (some (λ (r : ℕ). ((‵ (flft (α ∷ []) full_share) ⊛ ‵ ftrue) ⊛ ‵ (usize.own_val r (v ∷ []))) ⊛
    some (λ (ws : Lasts g.ended y.0.0 y.0.3). ‵ (lasts g.ended y.0.0 y.0.3 ws) ⊛ raw (fact 𝓤 (AreFiguresAsked x ws.0 r)))))) (id⊢ 𝓤 _) $
    await ! tt $ pick ! (λ r. split ! $ split ! $ split ! $ lft_end ! tt $ move ! (3 ∷ []) $ pick ! (λ ws. split ! $ move ! (1 ∷ []) $ heard ! _ (λ said. fsplit ! $ fsplit ! $
    -- [the last value; its borrow; nothing; α is over; the token; the result; the lender's part; the chunk; nothing; nothing]
    move ! (3 ∷ 6 ∷ 0 ∷ []) $ use3 𝓛 (later (‵ (lies_at R full_share (block_ptr b o) ws.0))) (ref_back 𝓛 R (α ∷ []) γ ws.0 b o) $ await ! tt $
    -- [the counter; its borrow; nothing; the token; the result; the chunk; nothing; nothing]
    move ! (0 ∷ 5 ∷ []) $ fjoin ! $ rewrite ! 0 (λ (π : Ptr). ‵ (holds π ws.0)) (sym e) refl $
    let Said : Type 0 = AreFiguresAsked x ws.0 r in let After : R.Denot → SProp 𝓤 = λ after. sep 𝓤 (sem 𝓛 (holds p after)) (fact 𝓤 (AreFiguresAsked x after r)) in
    use0 𝓛 (raw (fact 𝓤 Said)) (fact_i 𝓤 Said (emp 𝓤) said) $ move ! (1 ∷ 0 ∷ []) $ use2 𝓛 (raw (ex 𝓤 After)) (ex_i 𝓤 After ws.0) $
    -- [the counter behind its handle; its borrow; nothing; the token; the result; nothing; nothing]
    move ! (4 ∷ []) $ peeks ! usize (Is usize) (shows 𝓛 usize) r (v ∷ []) (λ is.
    lands_as ! refl refl ((uint_Lawful 𝓛 w64).typed r _ is).0 $
    nothing ! $ nothing ! $ fjoin ! $
    returns ! (look_at ! 0 refl) $ free_all ! refl $
    -- [nothing of the parameters; the result; the counter behind its handle; its borrow; nothing; the token; ..]
    keep ! (5 ∷ 0 ∷ 1 ∷ 2 ∷ []) $ by ! (leaves 𝓛 f.ended stayed c z v r (tt, tt) (tt, tt)))))))))))))
