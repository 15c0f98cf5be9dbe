-- Rows that are attained and closed backward are exactly the latest entries above the bound, and such a table is closed.
use Rattle.std.proofs.Common.{◌≡◌, ℕ, ◌-◌, ◌≤◌, ◌<◌, Option, Some, None, option_map, ◌⊎◌, inl, inr, subst, arith, ◌↔◌}
use Rattle.std.proofs.lemmas.Bool.{cases_lt}
use Rattle.label_core.specs.Walks.{Network, IsEarliestExit}
use Rattle.label_core.specs.Tables.{IsBelow, HasAsGood, IsClosed}
use Rattle.label_core.specs.BackwardWalks.{Finish, Leads, IsLatestEntry}
use Rattle.label_core.specs.BackwardTables.{IsAbove, HasAsLate, IsClosedBack}
use Rattle.label_core.specs.Mirror.{mirror_network, mirror_starts, IsUpTo}
use Rattle.label_core.proofs.ExactTables.{exact_closed}
use Rattle.label_core.proofs.MirroredTables.{MirrorRow, closed_back_covers}
use Rattle.label_core.proofs.MirroredWalks.{reaches_by, latest_in_mirror, latest_from_mirror, finish_entry_in_mirror, expansion_in_mirror}

pub IsAbove-more : (bound : Option ℕ) (t u : ℕ) → t ≤ u → IsAbove bound t → IsAbove bound u
IsAbove-more None t u le above = tt
IsAbove-more (Some b) t u le above = omega arith

pub above_in_mirror : (k : ℕ) (bound : Option ℕ) (t : ℕ) → t ≤ k → IsAbove bound t → IsBelow (option_map (λ b. k - b) bound) (k - t)
above_in_mirror k None t by above = tt
above_in_mirror k (Some b) t by above = omega arith

pub above_from_mirror : (k : ℕ) (bound : Option ℕ) (t : ℕ) → IsBelow (option_map (λ b. k - b) bound) t → IsAbove bound (k - t)
above_from_mirror k None t below = tt
above_from_mirror k (Some b) t below = omega arith

module _ {C : Type 0} (net : Network C) (finishes : C → Option Finish) (k : ℕ) (fits : IsUpTo k net finishes) (bound : Option ℕ) (Row : C → ℕ → Type 0)
    (rows_by : (c : C) (v : ℕ) → Row c v → v ≤ k) where
  -- a row above the bound is the latest entry of its cell, where each walk above the bound has a row as late, and each row is a begin
  pub row_latest : ((d : C) → 1 ≤ net.seconds d) → IsClosedBack net finishes bound Row → ((c : C) (v : ℕ) → Row c v → Leads net finishes c v) → ((c : C) (v w : ℕ) → Row c v → Row c w → v ≡ w)
      → (c : C) (v : ℕ) → Row c v → IsAbove bound v → IsLatestEntry net finishes c v
  row_latest takes closed led single c v row above = record { attained = led c v row; greatest = greatest }
    where
      greatest : (t : ℕ) → Leads net finishes c t → t ≤ v
      greatest t leads = elim (cases_lt v t) [ inl later ↦ over later | inr le ↦ le ]
        where
          over : v < t → t ≤ v
          over later =
              let r = closed_back_covers net finishes k fits bound Row rows_by takes closed c t leads (IsAbove-more bound v t (omega arith) above) in
              omega (arith, r.2, single c v r.0 row r.1)

  -- a latest entry above the bound is a row
  pub latest_row : ((d : C) → 1 ≤ net.seconds d) → IsClosedBack net finishes bound Row → ((c : C) (v : ℕ) → Row c v → Leads net finishes c v)
      → (c : C) (v : ℕ) → IsLatestEntry net finishes c v → IsAbove bound v → Row c v
  latest_row takes closed led c v latest above =
      let r = closed_back_covers net finishes k fits bound Row rows_by takes closed c v latest.attained above in
      let same : r.0 ≡ v = omega (arith, r.2, latest.greatest r.0 (led c r.0 r.1)) in
      subst (λ u. Row c u) same r.1

  -- an exact table is closed, if of each cell and value it can be told whether a row is as late
  module _ (exact : (c : C) (v : ℕ) → Row c v ↔ (IsLatestEntry net finishes c v × IsAbove bound v)) (told : (c : C) (t : ℕ) → HasAsLate Row c t ⊎ (HasAsLate Row c t → ⊥)) where
    exact_in_mirror : (c : C) (t : ℕ) → MirrorRow k Row c t ↔ (IsEarliestExit (mirror_network k net) (mirror_starts k finishes) c t × IsBelow (option_map (λ b. k - b) bound) t)
    exact_in_mirror c t = (
      λ row. (
          let h = (exact c (k - t)).0 row.1 in
          let twice : k - (k - t) ≡ t = omega (arith, row.0) in (
            subst (IsEarliestExit (mirror_network k net) (mirror_starts k finishes) c) twice (latest_in_mirror net finishes k fits c (k - t) h.0),
            subst (IsBelow (option_map (λ b. k - b) bound)) twice (above_in_mirror k bound (k - t) (omega arith) h.1),
          )),
      λ h. (reaches_by net finishes k fits c t h.0.attained, (exact c (k - t)).1 (latest_from_mirror net finishes k fits c t h.0, above_from_mirror k bound t h.1)),
    )

    told_in_mirror : (c : C) (t : ℕ) → HasAsGood (MirrorRow k Row) c t ⊎ (HasAsGood (MirrorRow k Row) c t → ⊥)
    told_in_mirror c t =
        elim (told c (k - t)) [
          | inl late ↦
              let by : late.0 ≤ k = rows_by c late.0 late.1 in
              let same : late.0 ≡ k - (k - late.0) = omega arith in
              inl (k - late.0, (omega arith, subst (λ v. Row c v) same late.1), omega (arith, late.2))
          | inr none ↦ inr (λ good. none (k - good.0, good.1.1, omega (arith, good.1.0, good.2)))
        ]

    closed_there : IsClosed (mirror_network k net) (mirror_starts k finishes) (option_map (λ b. k - b) bound) (MirrorRow k Row)
    closed_there = exact_closed (mirror_network k net) (mirror_starts k finishes) (option_map (λ b. k - b) bound) (MirrorRow k Row) exact_in_mirror told_in_mirror

    as_late : (c : C) (t : ℕ) → t ≤ k → HasAsGood (MirrorRow k Row) c (k - t) → HasAsLate Row c t
    as_late c t by good = (k - good.0, good.1.1, omega (arith, good.1.0, good.2))

    pub exact_closed_back : IsClosedBack net finishes bound Row
    exact_closed_back = record {
      finishes_in = λ c t e above. (
          let by : t ≤ k = omega (arith, e.value, fits.windows_last c) in
          as_late c t by (closed_there.starts_in c (k - t) (finish_entry_in_mirror net finishes k fits c t e) (above_in_mirror k bound t by above)));
      expansions_in = λ d c v t row e above. (
          let by : t ≤ k = omega (arith, e.value, fits.windows_last c) in
          let v_by : v ≤ k = rows_by d v row in
          let same : v ≡ k - (k - v) = omega arith in
          as_late c t by (closed_there.expansions_in d c (k - v) (k - t) (omega arith, subst (λ u. Row d u) same row) (expansion_in_mirror net finishes k fits d v c t e) (above_in_mirror k bound t by above)));
    }
