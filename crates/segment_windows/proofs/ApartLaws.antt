-- Windows that lie apart are in order, and one of them is found by its end.
use Rattle.std.proofs.Common.{◌≡◌, ◌↔◌, ℕ, ◌<◌, ◌≤◌, List, length, get_or, inl, inr, IsTrue, sym, ◌∙◌, ap, subst, arith}
use Rattle.std.specs.Prelude.{◌&&◌, ◌==◌, Contains}
use Rattle.std.specs.List.Sorted.{IsNonDecreasingBy}
use Rattle.std.proofs.lemmas.Bool.{cases_lt, and_parts, and_from, eqb-true, eq-eqb}
use Rattle.std.proofs.lemmas.List.{get_or_default}
use Rattle.taxi_base.specs.declared.rows.Span.{Span}
use Rattle.taxi_base.specs.Windows.{AreApart}
use Rattle.taxi_base.proofs.WindowLaws.{Span-same}
use Rattle.window_rows.specs.Rows.{no_window, window_at, IsFirstNotOver}
use Rattle.window_rows.proofs.RowLaws.{apart_at, apart_in_order, apart_rising, from_rising}

pub apart-some : (low : ℕ) (ws : List Span) → AreApart low ws → (i : ℕ) (d : Span) → i < length ws → (get_or ws i d).from < (get_or ws i d).until
apart-some low ws apart i d on = subst (λ (w : Span). w.from < w.until) (get_or_default ws i no_window d on) (apart_at low ws apart i on).1

pub apart-ordered : (ws : List Span) → AreApart 0 ws → IsNonDecreasingBy (λ w. w.from) ws
apart-ordered ws apart i j d le on =
    let one = ap (λ (w : Span). w.from) (get_or_default ws i no_window d (omega (arith, le, on))) in
    let other = ap (λ (w : Span). w.from) (get_or_default ws j no_window d on) in
    omega (arith, one, other, from_rising ws apart i j le on)

pub apart-ends_ordered : (ws : List Span) → AreApart 0 ws → IsNonDecreasingBy (λ w. w.until) ws
apart-ends_ordered ws apart i j d le on =
    let one = ap (λ (w : Span). w.until) (get_or_default ws i no_window d (omega (arith, le, on))) in
    let other = ap (λ (w : Span). w.until) (get_or_default ws j no_window d on) in
    omega (arith, one, other, apart_rising ws apart i j le on)

module _ (ws : List Span) (window : Span) (apart : AreApart 0 ws) (at : ℕ) (not_over : IsFirstNotOver ws window.until at) where
  -- a window stands where the first is that does not end before it
  window-there : Contains ws window → (at < length ws) × (get_or ws at window ≡ window)
  window-there there =
      let k = there.0 in
      let here : window_at ws k ≡ window = get_or_default ws k no_window window there.1 ∙ there.2 in
      let ends : (window_at ws k).until ≡ window.until = ap (λ (w : Span). w.until) here in
      elim (cases_lt k at) [
        | inl below ↦ absurd (omega (arith, ends, not_over.over k below))
        | inr above ↦ elim (cases_lt at k) [
          | inl beyond ↦
              let later = apart_in_order 0 ws apart at k beyond there.1 in
              absurd (omega (arith, ends, not_over.rest at (omega arith) (omega (arith, there.1, beyond)), later.1, later.2))
          | inr same_place ↦ (let e : k ≡ at = omega arith in (omega (arith, there.1), subst (λ n. get_or ws n window ≡ window) e there.2))
        ]
      ]

  pub window-some : (found : Span) → at < length ws → get_or ws at found ≡ found → IsTrue (found.from == window.from && found.until == window.until) ↔ Contains ws window
  window-some found on is = (
    λ same. (let parts = and_parts _ _ same in subst (Contains ws) (Span-same found window (eqb-true _ _ parts.0) (eqb-true _ _ parts.1)) (at, on, is)),
    λ there.
        let same : found ≡ window = sym is ∙ get_or_default ws at found window on ∙ (window-there there).1 in
        and_from _ _ (eq-eqb _ _ (ap (λ w. w.from) same)) (eq-eqb _ _ (ap (λ w. w.until) same)),
  )

  pub window-none : length ws ≤ at → Contains ws window → ⊥
  window-none past there = absurd (omega (arith, (window-there there).0))
