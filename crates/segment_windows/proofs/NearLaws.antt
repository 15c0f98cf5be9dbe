-- The windows between two seconds are a part of the list.
use Rattle.std.proofs.Common.{◌≡◌, ℕ, ◌+◌, ◌-◌, ◌<◌, ◌≤◌, List, length, get_or, take, drop, All, sym, ◌∙◌, ap, arith}
use Rattle.std.specs.Prelude.{Contains}
use Rattle.std.proofs.lemmas.List.{get_or-take, get_or-drop, get_or_default, length-take, length-drop}
use Rattle.taxi_base.specs.declared.rows.Span.{Span}
use Rattle.window_rows.specs.declared.rows.Part.{Part}
use Rattle.window_rows.specs.Rows.{no_window, window_at, IsCut}

module _ (ws : List Span) (low high : ℕ) (part : Part) (cut : IsCut ws low high part) where
  abbrev near : List Span
  near = take (part.until - part.first) (drop part.first ws)

  near-length : length near ≡ part.until - part.first
  near-length = omega (arith, length-take (part.until - part.first) (drop part.first ws), length-drop part.first ws, cut.within)

  near-at : (k : ℕ) (d : Span) → part.first + k < part.until → get_or near k d ≡ get_or ws (part.first + k) d
  near-at k d on = get_or-take (part.until - part.first) (drop part.first ws) k d (omega arith) ∙ get_or-drop part.first ws k d

  pub near-within : All (Contains ws) near
  near-within k d on =
      let inside : part.first + k < part.until = omega (arith, near-length, on) in
      (part.first + k, omega (arith, inside, cut.within), get_or_default ws (part.first + k) (get_or near k d) d (omega (arith, inside, cut.within)) ∙ sym (near-at k d inside))

  pub near-only : All (λ w. (low ≤ w.until) × (w.from ≤ high)) near
  near-only k d on =
      let inside : part.first + k < part.until = omega (arith, near-length, on) in
      let here : get_or near k d ≡ window_at ws (part.first + k) = near-at k d inside ∙ get_or_default ws (part.first + k) d no_window (omega (arith, inside, cut.within)) in
      let fits = cut.only (part.first + k) (record { from_first = omega arith; until_end = inside }) in
      (omega (arith, fits.0, ap (λ (w : Span). w.until) here), omega (arith, fits.1, ap (λ (w : Span). w.from) here))

  pub near-whole : All (λ w. low ≤ w.until → w.from ≤ high → Contains near w) ws
  near-whole k d on late early =
      let here : window_at ws k ≡ get_or ws k d = get_or_default ws k no_window d on in
      let inside = cut.whole k on (omega (arith, late, ap (λ (w : Span). w.until) here)) (omega (arith, early, ap (λ (w : Span). w.from) here)) in
      let e : part.first + (k - part.first) ≡ k = omega (arith, inside.from_first) in
      let w = get_or ws k d in (
        k - part.first,
        omega (arith, near-length, inside.from_first, inside.until_end),
        near-at (k - part.first) w (omega (arith, inside.from_first, inside.until_end)) ∙ ap (λ n. get_or ws n w) e ∙ get_or_default ws k w d on,
      )
