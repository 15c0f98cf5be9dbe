-- The text of a reply, lent: its bytes are opened as an array, and whoever gives them back ends the lifetime for which the engine was lent.
-- Assumes `Logic`.
use Rattle.std.proofs.Common.{ℕ, List, [], ◌∷◌, length, refl, w8}
use seplogic.Ra.Ura.{Ura}
use base.Fraction.{full_share}
use base.Logic.{ent, sep, wand, apply∗}
use base.Fml.{Fml, Share, feq, fsep, flft, flent}
use mir.Raw.{raw as bare}
use types.Logic.{Logic, sem, lfts}
use types.Kit.{‵, raw, later, ◌$◌, !, qed, done, by, drop, assume, updating, now, use1, use2, await, fsplit, fjoin, feq_i}
use types.Tokens.{lft_end, lent_back}
use denote.Array.{Array}
use denote.Builtin.{u8}
use denote.Copied.{uint_Copied, each_opens}
use denote.Memory.{part_at, lone}
use denote.Opens.{Opened, Opened-map}
use denote.RawPtr.{block_ptr}
use denote.RawPtr.Bytes.{bytes, bytes_apart, bytes_whole}
use denote.Slice.{elements_shared}
use Rattle.std.specs.contracts.impls.GlobalAllocator.TheImpl.{ghosts}
use Rattle.engine_texts.specs.Session.{SessionState}
use Rattle.engine_texts.specs.contracts.session.Session.{the_row as R}
use Rattle.taxi_library.specs.Open.{heap, holds}

module _ {M : Type 1} {𝓤 : Ura M} (𝓛 : Logic 𝓤) where
  open 𝓛 use {H, A}

  abbrev pub text_at : List ℕ → ℕ → ℕ → Share → Fml
  text_at xs b o share = part_at (Array u8 (length xs)) share xs b o

  -- what a `&[u8]` holds, opened
  pub text_opens : (xs : List ℕ) (b o : ℕ) → Opened 𝓛 (text_at xs b o) (elements_shared u8 xs b o)
  text_opens xs b o = Opened-map 𝓛 (λ (share : Share). bytes share xs b o) (text_at xs b o) (elements_shared u8 xs b o)
      (λ share. qed 𝓛 (‵ (bytes share xs b o) ∷ []) {P = sem 𝓛 (text_at xs b o share)} (feq_i ! ℕ (length xs) (length xs) refl $ fjoin ! $ by ! (bytes_whole 𝓛 share (length xs) xs b o)))
      (λ share. qed 𝓛 (‵ (text_at xs b o share) ∷ []) {P = sem 𝓛 (bytes share xs b o)} (use1 𝓛 (‵ (fsep (feq ℕ (length xs) (length xs)) (bytes share xs b o))) (bytes_apart 𝓛 share (length xs) xs b o) $ fsplit ! $ drop ! $ done !))
      (each_opens 𝓛 u8 (uint_Copied 𝓛 w8) xs b o)

  -- what was taken, given back, gives the token; so the lifetime ends, and the engine is its owner's again
  pub given_back : (α : ℕ) (engine : SessionState) (b o : ℕ) (taken : Fml)
      → ent 𝓤 (sep 𝓤 (wand 𝓤 (sem 𝓛 taken) (H.⇛ (lfts 𝓛 ((α ∷ [], full_share) ∷ [])))) (sep 𝓤 (A.lent (α ∷ []) (part_at R full_share engine b o)) (sem 𝓛 (ghosts.dealloc_token heap (bare (lone R.mir)) (block_ptr b o)))))
      (wand 𝓤 (sem 𝓛 taken) (H.⇛ (sem 𝓛 (holds (block_ptr b o) engine))))
  given_back α engine b o taken =
      qed 𝓛 (raw (wand 𝓤 (sem 𝓛 taken) (H.⇛ (lfts 𝓛 ((α ∷ [], full_share) ∷ [])))) ∷ ‵ (flent (α ∷ []) (part_at R full_share engine b o)) ∷ ‵ (ghosts.dealloc_token heap (bare (lone R.mir)) (block_ptr b o)) ∷ [])
      {P = wand 𝓤 (sem 𝓛 taken) (H.⇛ (sem 𝓛 (holds (block_ptr b o) engine)))} (
      assume ! (‵ taken) $ updating ! $ use2 𝓛 (later (‵ (flft (α ∷ []) full_share))) (apply∗ 𝓤 (sem 𝓛 taken) (H.⇛ (lfts 𝓛 ((α ∷ [], full_share) ∷ [])))) $ await ! tt $
      lft_end ! tt $ lent_back ! tt $ fjoin ! $ now ! $ done !)
