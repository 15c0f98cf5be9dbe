-- A span lies in one of some windows just where it lies in the first that does not end before it.
use Rattle.std.proofs.Common.{◌≡◌, ◌↔◌, ◌∙◌, ℕ, ◌<◌, ◌≤◌, true, false, List, length, get_or, inl, inr, IsTrue, sym, ap, arith}
use Rattle.std.specs.Prelude.{nat_lt, nat_le, Contains}
use Rattle.std.specs.List.Sorted.{IsPartitionPoint}
use Rattle.std.proofs.lemmas.Bool.{cases_lt, both_ways, lt-ltb, le-leb, leb-true, ltb-true}
use Rattle.std.proofs.lemmas.List.{get_or_default}
use Rattle.taxi_base.specs.declared.rows.Span.{Span}
use Rattle.taxi_base.specs.Windows.{AreApart, IsPart}
use Rattle.check_rows.proofs.PlaceLaws.{apart-ordered}

module _ (ws : List Span) (span : Span) (apart : AreApart 0 ws) (at : ℕ)
    (point : IsPartitionPoint (λ w. nat_lt w.until span.until ≡ true) (λ w. nat_lt w.until span.until ≡ false) ws at) where
  abbrev InOne : Type 0
  InOne = (w : Span) × Contains ws w × IsPart span w

  -- a window that the span lies in does not stand before that place
  not-before : (k : ℕ) (d : Span) → k < length ws → span.until ≤ (get_or ws k d).until → at ≤ k
  not-before k d on late =
      elim (cases_lt k at) [
        | inl below ↦ absurd (omega (arith, late, ltb-true _ _ (point.0 k d (omega arith) below)))
        | inr above ↦ above
      ]

  reaches : (found : Span) → at < length ws → get_or ws at found ≡ found → span.until ≤ found.until
  reaches found on is =
      elim (cases_lt (get_or ws at found).until span.until) [
        | inl short ↦ absurd (both_ways _ (point.1 at found (omega arith) on) (lt-ltb _ _ short))
        | inr long ↦ omega (arith, long, ap (λ (w : Span). w.until) is)
      ]

  pub inside-some : (found : Span) → at < length ws → get_or ws at found ≡ found → IsTrue (nat_le found.from span.from) ↔ InOne
  inside-some found on is = (
    λ begins. (found, (at, on, is), (leb-true _ _ begins, reaches found on is)),
    λ one.
        let w = one.0 in
        let k = one.1.0 in
        let same = one.1.2 in
        let behind = not-before k w one.1.1 (omega (arith, one.2.1, ap (λ (w : Span). w.until) same)) in
        let rising = apart-ordered ws apart at k w behind one.1.1 in
        let here : found ≡ get_or ws at w = sym is ∙ get_or_default ws at found w on in
        le-leb _ _ (omega (arith, rising, one.2.0, ap (λ (w : Span). w.from) here, ap (λ (w : Span). w.from) same)),
  )
