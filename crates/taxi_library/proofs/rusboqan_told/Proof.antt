-- The engine is lent as `&` for a lifetime that outlasts the call. Its token is behind the text, and whoever gives the text back ends it.
use Rattle.std.proofs.Common.{w64, ℕ, ◌≡◌, List, [], ◌∷◌, ◌++◌, length, refl, sym, ap, ◌∙◌, subst}
use base.Fraction.{full_share}
use base.Logic.{SProp, ent, sep, wand, ex, ex_i, id⊢, never, fst∗, emp}
use base.Fml.{ftrue, flft, flent, Share, Lft, Incl-refl}
use ghost.Rules.{Toks}
use mir.Syntax.{named}
use mir.Raw.{raw as bare}
use mir.Val.{Val, vptr, vint}
use prog.Wp.{WpFn}
use contract.BorrowLft.{⊑_static}
use contract.Monad.{fact, fact_i}
use contract.Running.{tables}
use types.Logic.{sem}
use types.Kit.{‵, raw, ◌⊛◌, some, later, ◌$◌, ◌∵◌, !, qed, by, move, keep, drop, split, join, fsplit, fsplit3, fjoin, fjoin3, feq_i, feq_l, flt_l, pick, use0, use1, use2, use3, await, rewrite, suffices}
use types.Part.{sub, whole}
use types.Run.{enter, of_opd, addr, from, fld, hop, stop, store, assigns, no_more, and_then, returns}
use types.ByLocal.{alloc_all, pass_all, free_all, look_at, look_in_at, get, get_in, through, sets, lands_as}
use types.Tokens.{lft_new}
use denote.Builtin.{u8, usize, RawPtr}
use denote.Exit.{yes}
use denote.Laws.{Is}
use denote.Lend.{lends_shr}
use denote.Memory.{lone, cell_at, part_at}
use denote.Opens.{Back, unhide}
use denote.Plain.{uint_Makes}
use denote.RattleType.{owns}
use denote.RawPtr.{Ptr, block_ptr, null_ptr, ptr_val, in_a_block}
use denote.Ref.{Bor, ShrRef}
use denote.Signature.{plain, types_at}
use denote.Slice.{ShrSlice}
use denote.Steps.{nothing, only, heard, owned, opens, closes}
use denote.Triple.Call.{calls_at}
use denote.Triple.Clauses.{Lasts, lasts}
use denote.Triple.Spec.{triple_of}
use denote.Triple.Table.{framed}
use denote.Triple.Walked.{Stays, stay_dropped, stay_ref, Goes-dropped, Goes-ref, walk_of}
use Rattle.std.proofs.raw_atomic.Walks.{proved_at, leaves}
use Rattle.std.specs.contracts.impls.GlobalAllocator.TheImpl.{ghosts}
use Rattle.engine_texts.specs.contracts.session.Session.{the_row as R}
use Rattle.engine_texts.proofs.session.Session.TheLaws.{the_row_laws as LR}
use Rattle.taxi_library.specs.Open.{heap, holds, reads}
use Rattle.taxi_library.proofs.Loan.{text_at, text_opens, given_back}
use Rattle.taxi_library.specs.contracts.rusboqan_told as f
use Rattle.taxi_library.specs.contracts.rusboqan_told.Key.{name as #self}
use Rattle.taxi_library.proofs.rusboqan_told.Statement.{statement}
use Rattle.taxi_library.proofs.rusboqan_told.Code as code
use Rattle.taxi_library.specs.contracts.calls.told as g
use Rattle.taxi_library.proofs.calls.told.Met.{met}

abbrev stayed : Stays f.ended.signature.params f.ended.kept
stayed = (stay_dropped (plain (λ _. RawPtr)) yes, (stay_ref (0 ∷ []) tt (plain (λ _. RawPtr)), tt))

pub rusboqan_told_spec : {M : Type 1} → statement M
rusboqan_told_spec 𝓤 𝓛 𝓜 𝓡 wired =
    let H = 𝓛.H in let 𝓣 = tables 𝓤 H 𝓜 𝓡 𝓡.env in let c = f.clauses 𝓛 𝓜.mem 𝓡.returns in
    proved_at 𝓛 f.ended stayed c 𝓜 𝓡 (Goes-dropped 𝓛 1 (plain (λ _. RawPtr)) yes (λ κs x w. refl), (Goes-ref 𝓛 1 0 tt (plain (λ _. RawPtr)), tt))
    #self code.function (code.unfolded 𝓤 H 𝓜 𝓡 wired) (λ z are.
    let κ = z.0.0.0 in let q = z.0.1.0 in let p = z.0.3.0 in let out = z.0.3.1.0 in let bo = out.ref_ptr.0 in let oo = out.ref_ptr.1 in let x = z.1 in let Post : Val → SProp 𝓤 = (walk_of 𝓛 f.ended stayed c).post z in let Run : List Val → SProp 𝓤 = λ ws. WpFn 𝓤 H 𝓣.C 𝓣.Λ code.function ws Post in
    qed 𝓛 (((‵ (flft κ q) ⊛ ‵ ftrue) ⊛ ‵ (owns (types_at f.signature.params z.0.0) z.0.3 z.0.4)) ∷ ‵ (holds p x) ∷ []) ∵
    split ! $ split ! $ move ! (2 ∷ []) $ fsplit ! $ feq_l ! (λ ep. fsplit ! $ move ! (4 ∷ []) $
    in_a_block ! p (λ π. holds π x) (fst∗ 𝓤 (never 𝓤) (sem 𝓛 (ghosts.dealloc_token heap (bare (lone R.mir)) null_ptr))) (λ b o e.
    let us : List Val = vptr b o ∷ vptr bo oo ∷ [] in
    suffices ! (Run us) (subst (λ (ws : List Val). ent 𝓤 (Run us) (Run ws)) (sym (λ i. (ep ∙ ap (λ (π : Ptr). ptr_val π ∷ []) e) i ++ (are.1.0.0 i ++ []))) (id⊢ 𝓤 (Run us))) $
    enter ! 𝓣.C 𝓣.Λ code.function us Post $ alloc_all ! (λ l. pass_all ! refl ((tt, tt), ((tt, tt), tt)) $
    -- [the box; where the text's place is written; nothing; the token; nothing]
    sets ! (of_opd ! (get ! refl)) refl (tt, tt) $
    sets ! (addr ! (through ! refl (stop !))) refl (tt, tt) $
    fsplit ! $ lft_new ! tt (λ α. let κ' : Lft = α ∷ [] in let ts : Toks = (κ', full_share) ∷ [] in let d : Bor R.Denot = record { ref_ptr = (b, o); now = x } in move ! (1 ∷ 0 ∷ []) $
    use2 𝓛 (later ((‵ ((ShrRef (named 0) κ' R).own_val d (vptr b o ∷ [])) ⊛ ‵ (flent κ' (part_at R full_share x b o))) ⊛ ‵ (flft κ' full_share)))
    (lends_shr 𝓛 R (named 0) κ' full_share x b o R.lives (LR.shares 𝓛 x) ts (⊑_static κ') (Incl-refl κ')) $ await ! tt $ split ! $ split ! $
    -- [the engine, lent; the right to it; the token of α; the right to free; out; nothing; the token; nothing]
    let G = triple_of 𝓛 g.signature (g.spec 𝓛 𝓜.mem 𝓡.returns) in
    let y : G.Ghost = (((κ', tt), (full_share, tt), tt, (d, tt), (vptr b o ∷ [], tt)), tt) in
    nothing ! $ move ! (1 ∷ 0 ∷ []) $ join ! $ nothing ! $ move ! (3 ∷ 0 ∷ []) $ join ! $ join ! $
    nothing ! $ move ! (1 ∷ 0 ∷ []) $ use2 𝓛 (raw (G.pre y)) (id⊢ 𝓤 _) $
    calls_at ! (framed 𝓤 H 𝓜 𝓣) G (met 𝓤 𝓛 𝓜 𝓡 (code.calls-taxi_library::calls::told 𝓡.env wired)) y (and_then ! (get ! refl) (no_more !)) (λ v.
    use1 𝓛 (later (some (λ (s : Bor (List ℕ)). ((‵ (flft κ' full_share) ⊛ ‵ ftrue) ⊛ ‵ ((ShrSlice (named 0) κ' u8).own_val s (v ∷ []))) ⊛
    some (λ (ws : Lasts g.ended y.0.0 y.0.3). ‵ (lasts g.ended y.0.0 y.0.3 ws) ⊛ raw (fact 𝓤 (s.now ≡ x.told)))))) (id⊢ 𝓤 _) $
    await ! tt $ pick ! (λ s. split ! $ split ! $ split ! $ move ! (3 ∷ []) $ pick ! (λ ws. split ! $ drop ! $ heard ! _ (λ said. move ! (2 ∷ []) $ fsplit ! $ fsplit ! $ feq_l ! (λ is. fsplit ! $ flt_l ! (λ fits. drop ! $ unhide ! $
    let n = length s.now in let b' = s.ref_ptr.0 in let o' = s.ref_ptr.1 in let text : Ptr = block_ptr b' o' in let taken = text_at 𝓛 s.now b' o' in
    -- [the bytes; the token of α; nothing; the right to the engine; the right to free; out; nothing; the token; nothing]
    lands_as ! (ap only is) refl (tt, (tt, (record { fits = fits }, tt))) $
    sets ! (addr ! (from ! (fld ! refl (hop ! (look_in_at ! 3 (sub ! 0 refl (whole !))) (stop !))))) refl (tt, tt) $
    move ! (5 ∷ []) $ fsplit3 ! $ move ! (1 ∷ 2 ∷ 9 ∷ []) $ opens ! tt RawPtr bo oo (λ vs. move ! (1 ∷ []) $ feq_l ! (λ was. rewrite ! 0 (λ (ws : List Val). ‵ (cell_at full_share RawPtr.mir ws bo oo)) was refl $
    assigns ! (of_opd ! (get ! refl)) (through ! refl (stop !)) (store ! 0 refl (tt, tt)) $
    feq_i ! (List Val) (vptr b' o' ∷ []) (vptr b' o' ∷ []) refl $ move ! (1 ∷ 0 ∷ []) $ closes ! tt RawPtr text (vptr b' o' ∷ []) bo oo $
    -- [two parts of out; the token; out's first part; the bytes; the token of α; nothing; the right to the engine; the right to free; nothing; nothing]
    sets ! (of_opd ! (get_in ! (fld ! refl (stop !)) (sub ! 1 refl (whole !)))) refl (tt, record { fits = fits }) $
    move ! (4 ∷ 5 ∷ []) $ use2 𝓛 (later (some (λ (share : Share). ‵ (taken share) ⊛ raw (Back 𝓛 taken ts share)))) (text_opens 𝓛 s.now b' o' κ' ts (Incl-refl κ')) $ await ! tt $ pick ! (λ share. split ! $
    -- [the text; its way back; two parts of out; the token; out's first part; nothing; the right to the engine; the right to free; nothing; nothing]
    let Back-to : Ptr → SProp 𝓤 = λ π. wand 𝓤 (sem 𝓛 (taken share)) (H.⇛ (sem 𝓛 (holds π x))) in
    let Lent : Ptr → List ℕ → Share → SProp 𝓤 = λ π bytes t. sep 𝓤 (sem 𝓛 (reads t text bytes)) (wand 𝓤 (sem 𝓛 (reads t text bytes)) (H.⇛ (sem 𝓛 (holds π x)))) in
    move ! (1 ∷ 7 ∷ 8 ∷ []) $ use3 𝓛 (raw (Back-to (block_ptr b o))) (given_back 𝓛 α x b o (taken share)) $
    move ! (1 ∷ 0 ∷ []) $ use2 𝓛 (raw (ex 𝓤 (Lent (block_ptr b o) s.now))) (ex_i 𝓤 (Lent (block_ptr b o) s.now) share) $
    rewrite ! 0 (λ (bytes : List ℕ). raw (ex 𝓤 (Lent (block_ptr b o) bytes))) said refl $ rewrite ! 0 (λ (π : Ptr). raw (ex 𝓤 (Lent π x.told))) (sym e) refl $
    use0 𝓛 (raw (fact 𝓤 (n ≡ length x.told))) (fact_i 𝓤 (n ≡ length x.told) (emp 𝓤) (ap (λ (bytes : List ℕ). length bytes) said)) $ move ! (1 ∷ 0 ∷ []) $ join ! $
    -- [the loan; two parts of out; the token; out's first part; nothing; nothing; nothing]
    move ! (4 ∷ 1 ∷ 2 ∷ []) $ fjoin3 ! $ nothing ! $ move ! (1 ∷ 0 ∷ []) $ fjoin ! $ nothing ! $ fjoin ! $ nothing ! $ move ! (3 ∷ 0 ∷ []) $ join ! $
    owned ! usize (Is usize) (uint_Makes 𝓛 w64) n (vint w64 n ∷ []) (refl, fits) $
    -- [the result; the token; out; the loan; ..]
    returns ! (look_at ! 0 refl) $ free_all ! refl $ keep ! (1 ∷ 2 ∷ 0 ∷ 3 ∷ []) $ by ! (leaves 𝓛 f.ended stayed c z (vint w64 n) n (tt, (text, tt)) (tt, (tt, tt)))))))))))))))))
