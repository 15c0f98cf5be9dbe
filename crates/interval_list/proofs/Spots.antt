-- What a chain comes to where a window is written, split or taken out.
use Rattle.std.proofs.Common.{◌≡◌, ℕ, suc, ◌+◌, ◌<◌, List, [], ◌∷◌, ◌++◌, length, take, drop, refl, sym, ap, ◌∙◌, subst, arith}
use denote.RawPtr.{Ptr, null_ptr}
use Rattle.interval_list.specs.declared.window.Window.{Window}
use Rattle.interval_list.specs.Edits.{inserted, removed, replaced, item}
use Rattle.interval_list.specs.Cells.{Cell, places, windows_of, place_of}
use Rattle.interval_list.proofs.Edited.{item-inserted_after, item-removed_before, item-removed_after, length-removed, length-windows_of, replaced-split, removed-split, split-split, place_of-places}

module _ (cs ds es : List Cell) (i : ℕ) where
  abbrev ws : List Window
  ws = windows_of cs

  pub two-pieces : (x y : Window) (pieces : List Window) → i < length cs → windows_of ds ≡ replaced ws i x → windows_of es ≡ inserted (windows_of ds) (i + 1) y → pieces ≡ x ∷ y ∷ []
      → windows_of es ≡ take i ws ++ (pieces ++ drop (i + 1) ws)
  two-pieces x y pieces within wrote put are =
      let on : i + 1 ≡ suc i = omega arith in
      rw are (rw on (subst (λ k. windows_of es ≡ inserted (windows_of ds) k y) on put ∙ ap (λ zs. inserted zs (suc i) y) wrote ∙ split-split ws i x y (omega (arith, within, length-windows_of cs))))

  pub one-piece : (x : Window) (pieces : List Window) → i < length cs → windows_of ds ≡ replaced ws i x → pieces ≡ x ∷ [] → windows_of ds ≡ take i ws ++ (pieces ++ drop (i + 1) ws)
  one-piece x pieces within wrote are =
      let on : i + 1 ≡ suc i = omega arith in rw are (rw on (wrote ∙ replaced-split ws i x (omega (arith, within, length-windows_of cs))))

  pub no-piece : (pieces : List Window) → i < length cs → windows_of ds ≡ removed ws i → pieces ≡ [] → windows_of ds ≡ take i ws ++ (pieces ++ drop (i + 1) ws)
  no-piece pieces within went are =
      let on : i + 1 ≡ suc i = omega arith in rw are (rw on (went ∙ removed-split ws i (omega (arith, within, length-windows_of cs))))

  pub place-same : (k : ℕ) → places ds ≡ places cs → place_of ds k ≡ place_of cs k
  place-same k same = place_of-places ds k ∙ ap (λ ps. item null_ptr ps k) same ∙ sym (place_of-places cs k)

  pub place-put : (at : Ptr) → places ds ≡ places cs → places es ≡ inserted (places ds) (i + 1) at → place_of es (i + 2) ≡ place_of cs (i + 1)
  place-put at same put =
      let on : i + 2 ≡ suc (i + 1) = omega arith in
      rw on (place_of-places es (suc (i + 1)) ∙ ap (λ ps. item null_ptr ps (suc (i + 1))) put ∙ item-inserted_after null_ptr (places ds) (i + 1) (i + 1) at (omega arith) ∙ sym (place_of-places ds (i + 1)) ∙ place-same (i + 1) same)

  pub place-taken : places ds ≡ removed (places cs) i → place_of ds i ≡ place_of cs (i + 1)
  place-taken went =
      let on : i + 1 ≡ suc i = omega arith in
      rw on (place_of-places ds i ∙ ap (λ ps. item null_ptr ps i) went ∙ item-removed_after null_ptr (places cs) i i (omega arith) ∙ sym (place_of-places cs (suc i)))

pub length-places : (cs : List Cell) → length (places cs) ≡ length cs
length-places [] = refl
length-places (c ∷ cs) = ap suc (length-places cs)

pub length-same : (cs ds : List Cell) → places ds ≡ places cs → length ds ≡ length cs
length-same cs ds same = omega (arith, length-places cs, length-places ds, ap length same)

pub length-taken : (cs ds : List Cell) (i : ℕ) → i < length cs → places ds ≡ removed (places cs) i → length ds + 1 ≡ length cs
length-taken cs ds i within went = omega (arith, length-places cs, length-places ds, ap length went, length-removed (places cs) i (omega (arith, within, length-places cs)))

pub place-before : (cs ds : List Cell) (i k : ℕ) → k < i → places ds ≡ removed (places cs) i → place_of ds k ≡ place_of cs k
place-before cs ds i k low went =
    place_of-places ds k ∙ ap (λ ps. item null_ptr ps k) went ∙ item-removed_before null_ptr (places cs) i k low ∙ sym (place_of-places cs k)
