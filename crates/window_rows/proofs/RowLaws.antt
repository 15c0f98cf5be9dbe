-- Windows that lie apart are in order, and a row of them is cut where they end too early, and where they begin too late.
use Rattle.std.proofs.Common.{ℕ, zero, suc, ◌+◌, ◌-◌, ◌<◌, ◌≤◌, List, [], ◌∷◌, length, inl, inr, ap, arith}
use Rattle.std.proofs.lemmas.Bool.{cases_lt, cases_eq}
use Rattle.taxi_base.specs.declared.rows.Span.{Span}
use Rattle.taxi_base.specs.Windows.{AreApart}
use Rattle.window_rows.specs.Rows.{window_at, IsFirstNotOver, IsCut}

-- windows that lie apart begin no sooner than their bound, and none is empty
pub apart_at : (low : ℕ) (ws : List Span) → AreApart low ws → (k : ℕ) → k < length ws → (low ≤ (window_at ws k).from) × ((window_at ws k).from < (window_at ws k).until)
apart_at low [] apart k on = absurd (omega arith)
apart_at low (w ∷ ws) apart zero on = (apart.0, apart.1)
apart_at low (w ∷ ws) apart (suc k) on = let h = apart_at (w.until + 1) ws apart.2 k (omega arith) in (omega (arith, apart.0, apart.1, h.0), h.1)

-- and later ones begin after earlier ones end
pub apart_in_order : (low : ℕ) (ws : List Span) → AreApart low ws → (j k : ℕ) → j < k → k < length ws
    → ((window_at ws j).from < (window_at ws j).until) × ((window_at ws j).until < (window_at ws k).from) × ((window_at ws k).from < (window_at ws k).until)
apart_in_order low [] apart j k earlier on = absurd (omega arith)
apart_in_order low (w ∷ ws) apart j zero earlier on = absurd (omega arith)
apart_in_order low (w ∷ ws) apart zero (suc k) earlier on = let h = apart_at (w.until + 1) ws apart.2 k (omega arith) in (apart.1, omega (arith, h.0), h.1)
apart_in_order low (w ∷ ws) apart (suc j) (suc k) earlier on = apart_in_order (w.until + 1) ws apart.2 j k (omega arith) (omega arith)

-- no later one ends sooner
pub apart_rising : (row : List Span) → AreApart 0 row → (j k : ℕ) → j ≤ k → k < length row → (window_at row j).until ≤ (window_at row k).until
apart_rising row apart j k le on =
    elim (cases_eq j k) [
      | inl same ↦ omega (arith, ap (λ (n : ℕ). (window_at row n).until) same)
      | inr other ↦ let h = apart_in_order 0 row apart j k (omega (arith, le, other)) on in omega (arith, h.0, h.1, h.2)
    ]

-- nor begins sooner
pub from_rising : (row : List Span) → AreApart 0 row → (j k : ℕ) → j ≤ k → k < length row → (window_at row j).from ≤ (window_at row k).from
from_rising row apart j k le on =
    elim (cases_eq j k) [
      | inl same ↦ omega (arith, ap (λ (n : ℕ). (window_at row n).from) same)
      | inr other ↦ let h = apart_in_order 0 row apart j k (omega (arith, le, other)) on in omega (arith, h.0, h.1)
    ]

-- the first that is not over, where the one before it is over
pub first_at : (row : List Span) → AreApart 0 row → (second n : ℕ) → n < length row → second ≤ (window_at row n).until → (0 < n → (window_at row (n - 1)).until < second)
    → IsFirstNotOver row second n
first_at row apart second n on not_over before = record {
  few = omega (arith, on);
  over = λ k below. omega (arith, apart_rising row apart k (n - 1) (omega (arith, below)) (omega (arith, on, below)), before (omega (arith, below)));
  rest = λ k from within. omega (arith, apart_rising row apart n k from within, not_over);
}

-- the windows from the first that is not over until the first that begins too late
pub cut_at : (row : List Span) → AreApart 0 row → (low high first until : ℕ) → IsFirstNotOver row low first → first ≤ until → until ≤ length row
    → (first < until → (window_at row (until - 1)).from ≤ high) → (until < length row → high < (window_at row until).from) → IsCut row low high (record { first = first; until = until })
cut_at row apart low high first until not_over le few begin stops = record {
  ordered = le;
  within = few;
  whole = λ k on not_ended begins. record {
    from_first = elim (cases_lt k first) [
      | inl sooner ↦ absurd (omega (arith, not_over.over k sooner, not_ended))
      | inr from ↦ from
    ];
    until_end = elim (cases_lt k until) [
      | inl sooner ↦ sooner
      | inr later ↦ absurd (omega (arith, from_rising row apart until k later on, stops (omega (arith, later, on)), begins))
    ];
  };
  only = λ k here. (
    not_over.rest k here.from_first (omega (arith, here.until_end, few)),
    omega (
      arith,
      from_rising row apart k (until - 1) (omega (arith, here.until_end)) (omega (arith, here.from_first, here.until_end, few)),
      begin (omega (arith, here.from_first, here.until_end)),
    ),
  );
}
