-- The windows of a test of the seconds before a horizon exist: they are made second by second from the last.
use Rattle.std.proofs.Common.{◌≡◌, ℕ, zero, suc, ◌+◌, ◌<◌, ◌≤◌, Bool, true, false, ◌&&◌, ◌||◌, ◌==◌, nat_lt, nat_le, List, [], ◌∷◌, inl, inr, IsFalse, refl, sym, ◌∙◌, arith}
use Rattle.std.proofs.lemmas.Bool.{cases_Bool, cases_lt, cond_both, eqb-true, eq-eqb, and_from, and_right, le-leb, lt-ltb, both_ways}
use Rattle.std.proofs.lemmas.Bool.Decides.{nat_tests}
use Rattle.taxi_base.specs.declared.rows.Span.{Span}
use Rattle.taxi_base.specs.Windows.{span_has, covers, AreApart, AreWindows, with_second, windows_from, windows_before}

-- windows apart from a second on are so from an earlier one on
pub AreApart-lower : (low high : ℕ) (ws : List Span) → low ≤ high → AreApart high ws → AreApart low ws
AreApart-lower low high [] under apart = tt
AreApart-lower low high (w ∷ ws) under apart = (omega arith, apart.1, apart.2)

with_second-apart : (t : ℕ) (ws : List Span) → AreApart (t + 1) ws → AreApart t (with_second t ws)
with_second-apart t [] apart = (omega arith, omega arith, tt)
with_second-apart t (w ∷ ws) apart =
    cond_both (w.from == t + 1) (record { from = t; until = w.until } ∷ ws) (record { from = t; until = t + 1 } ∷ w ∷ ws) (AreApart t)
    (λ touches. (omega arith, omega arith, apart.2))
    (λ gap. (omega arith, omega arith, (later w.from gap apart.0, apart.1, apart.2)))
  where
    later : (from : ℕ) → IsFalse (from == t + 1) → t + 1 ≤ from → t + 1 + 1 ≤ from
    later from gap low = elim (cases_lt (t + 1) from) [
      | inl h ↦ omega arith
      | inr h ↦ let e : from ≡ t + 1 = omega arith in absurd (both_ways _ gap (eq-eqb from (t + 1) e))
    ]

one_second : (t s : ℕ) → span_has (record { from = t; until = t + 1 }) s ≡ (s == t)
one_second t s = grind (arith, nat_tests)

longer : (t s from until : ℕ) → from ≡ t + 1 → from < until → span_has (record { from = t; until = until }) s ≡ ((s == t) || span_has (record { from = from; until = until }) s)
longer t s from until touches some = grind (arith, nat_tests)

or_assoc : (a b c : Bool) → ((a || b) || c) ≡ (a || (b || c))
or_assoc true b c = refl
or_assoc false b c = refl

with_second-covers : (t : ℕ) (ws : List Span) (s : ℕ) → AreApart (t + 1) ws → covers (with_second t ws) s ≡ ((s == t) || covers ws s)
with_second-covers t [] s apart = rw one_second refl
with_second-covers t (w ∷ ws) s apart =
    cond_both (w.from == t + 1) (record { from = t; until = w.until } ∷ ws) (record { from = t; until = t + 1 } ∷ w ∷ ws) (λ spans. covers spans s ≡ ((s == t) || covers (w ∷ ws) s))
    (λ touches. rw (longer t s w.from w.until (eqb-true _ _ touches) apart.1) (or_assoc (s == t) (span_has w s) (covers ws s)))
    (λ gap. rw (one_second t s) refl)

windows_from-apart : (free : ℕ → Bool) (t n : ℕ) → AreApart t (windows_from free t n)
windows_from-apart free t zero = tt
windows_from-apart free t (suc n) =
    cond_both (free t) (with_second t (windows_from free (t + 1) n)) (windows_from free (t + 1) n) (AreApart t)
    (λ _. with_second-apart t (windows_from free (t + 1) n) (windows_from-apart free (t + 1) n))
    (λ _. AreApart-lower t (t + 1) (windows_from free (t + 1) n) (omega arith) (windows_from-apart free (t + 1) n))

-- whether a second is one of a number from one on
abbrev among : ℕ → ℕ → ℕ → Bool
among t n s = nat_le t s && nat_lt s (t + n)

among-later : (t n s : ℕ) → IsFalse (s == t) → among (t + 1) n s ≡ among t (suc n) s
among-later t n s not_here = grind (arith, nat_tests)

among-first : (t n : ℕ) → among t (suc n) t ≡ true
among-first t n = grind (arith, nat_tests)

among-none : (t s : ℕ) → among t 0 s ≡ false
among-none t s = grind (arith, nat_tests)

-- a second is covered just where it is one of the number, and free
covers-from : (free : ℕ → Bool) (t n s : ℕ) → covers (windows_from free t n) s ≡ (free s && among t n s)
covers-from free t zero s = sym (and_right (free s) (among t 0 s) (among-none t s))
covers-from free t (suc n) s =
    cond_both (free t) (with_second t (windows_from free (t + 1) n)) (windows_from free (t + 1) n) (λ spans. covers spans s ≡ (free s && among t (suc n) s))
    (λ is_free. with_second-covers t (windows_from free (t + 1) n) s (windows_from-apart free (t + 1) n) ∙ rw (covers-from free (t + 1) n s) (with_here is_free))
    (λ not_free. covers-from free (t + 1) n s ∙ without_here not_free)
  where
    with_here : free t ≡ true → ((s == t) || (free s && among (t + 1) n s)) ≡ (free s && among t (suc n) s)
    with_here is_free = elim (cases_Bool (s == t)) [
      | inl here ↦ let e : s ≡ t = eqb-true s t here in rw (here, e, is_free, among-first t n) refl
      | inr not_here ↦ rw (not_here, among-later t n s not_here) refl
    ]

    without_here : free t ≡ false → (free s && among (t + 1) n s) ≡ (free s && among t (suc n) s)
    without_here not_free = elim (cases_Bool (s == t)) [
      | inl here ↦ let e : s ≡ t = eqb-true s t here in rw (e, not_free) refl
      | inr not_here ↦ rw (among-later t n s not_here) refl
    ]

-- Where nothing is free from the horizon on, they are the windows.
pub windows_before-are : (free : ℕ → Bool) (horizon : ℕ) → ((t : ℕ) → horizon ≤ t → IsFalse (free t)) → AreWindows free (windows_before free horizon)
unfolding windows_before
windows_before-are free horizon bounded = record { apart = windows_from-apart free 0 horizon; same = λ t. covers-from free 0 horizon t ∙ within t } where
  within : (t : ℕ) → (free t && among 0 horizon t) ≡ free t
  within t = elim (cases_lt t horizon) [
    | inl low ↦ elim (cases_Bool (free t)) [ inl e ↦ rw e (and_from _ _ (le-leb 0 t (omega arith)) (lt-ltb t (0 + horizon) (omega arith))) | inr e ↦ rw e refl ]
    | inr past ↦ rw (bounded t past) refl
  ]
