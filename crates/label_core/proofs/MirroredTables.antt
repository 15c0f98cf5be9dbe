-- What is proved of tables forwards, for tables backwards.
use Rattle.std.proofs.Common.{◌≡◌, ℕ, ◌-◌, ◌≤◌, Option, Some, None, option_map, subst, arith}
use Rattle.label_core.specs.Walks.{Network}
use Rattle.label_core.specs.Tables.{IsBelow, HasAsGood, IsClosed}
use Rattle.label_core.specs.BackwardWalks.{Finish, Leads}
use Rattle.label_core.specs.Mirror.{mirror_network, mirror_starts, IsUpTo}
use Rattle.label_core.specs.BackwardTables.{IsAbove, HasAsLate, IsClosedBack}
use Rattle.label_core.proofs.ClosedTables.{closed_covers}
use Rattle.label_core.proofs.MirroredWalks.{leads_by, leads_in_mirror, finish_entry_from_mirror, expansion_from_mirror}

-- the rows in the mirror
abbrev pub MirrorRow : {C : Type 0} → ℕ → (C → ℕ → Type 0) → C → ℕ → Type 0
MirrorRow k Row c t = (t ≤ k) × Row c (k - t)

below_from_above : (k : ℕ) (bound : Option ℕ) (t : ℕ) → IsBelow (option_map (λ b. k - b) bound) t → IsAbove bound (k - t)
below_from_above k None t below = tt
below_from_above k (Some b) t below = omega arith

above_to_below : (k : ℕ) (bound : Option ℕ) (t : ℕ) → t ≤ k → IsAbove bound t → IsBelow (option_map (λ b. k - b) bound) (k - t)
above_to_below k None t by above = tt
above_to_below k (Some b) t by above = omega arith

module _ {C : Type 0} (net : Network C) (finishes : C → Option Finish) (k : ℕ) (fits : IsUpTo k net finishes)
    (bound : Option ℕ) (Row : C → ℕ → Type 0) (rows_by : (c : C) (v : ℕ) → Row c v → v ≤ k) where
  as_good_in_mirror : (c : C) (t : ℕ) → HasAsLate Row c (k - t) → HasAsGood (MirrorRow k Row) c t
  as_good_in_mirror c t late =
      let by : late.0 ≤ k = rows_by c late.0 late.1 in
      let same : late.0 ≡ k - (k - late.0) = omega arith in
      (k - late.0, (omega arith, subst (λ v. Row c v) same late.1), omega (arith, late.2))

  pub closed_in_mirror : IsClosedBack net finishes bound Row → IsClosed (mirror_network k net) (mirror_starts k finishes) (option_map (λ b. k - b) bound) (MirrorRow k Row)
  closed_in_mirror closed = record {
    starts_in = λ c t e below. as_good_in_mirror c t (closed.finishes_in c (k - t) (finish_entry_from_mirror net finishes k fits c t e) (below_from_above k bound t below));
    expansions_in = λ c d v t row e below. as_good_in_mirror d t (closed.expansions_in c d (k - v) (k - t) row.1 (expansion_from_mirror net finishes k fits c v d t row.0 e) (below_from_above k bound t below));
  }

  -- each walk that begins above the bound has a row at least as late
  pub closed_back_covers : ((d : C) → 1 ≤ net.seconds d) → IsClosedBack net finishes bound Row → (c : C) (t : ℕ) → Leads net finishes c t → IsAbove bound t → HasAsLate Row c t
  closed_back_covers takes closed c t leads above =
      let by : t ≤ k = leads_by net finishes k fits c t leads in
      let r = closed_covers (mirror_network k net) (mirror_starts k finishes) (option_map (λ b. k - b) bound) (MirrorRow k Row) (closed_in_mirror closed) c (k - t) (leads_in_mirror net finishes k fits c t leads) takes (above_to_below k bound t by above) in
      (k - r.0, r.1.1, omega (arith, r.2, r.1.0))
