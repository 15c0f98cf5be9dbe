-- Rows that are attained and closed are exactly the earliest exits below the bound.
use Rattle.std.proofs.Common.{zero, suc, ◌↔◌, ◌≡◌, ℕ, ◌≤◌, ◌<◌, Option, subst, ◌⊎◌, inl, inr, arith}
use Rattle.std.proofs.lemmas.Bool.{cases_lt}
use Rattle.label_core.specs.Walks.{Network, Start, Reaches, IsEarliestExit}
use Rattle.label_core.specs.Tables.{HasAsGood, IsBelow, IsClosed, IsAttained}
use Rattle.label_core.specs.Labels.{IsStartEntry, IsExpansion}
use Rattle.label_core.proofs.ClosedTables.{IsBelow-less, IsReason, reason_of, closed_covers}
use Rattle.label_core.proofs.AttainedValues.{start_entry_reached, expansion_reached}

module _ {C : Type 0} (net : Network C) (starts : C → Option Start) (bound : Option ℕ) (Row : C → ℕ → Type 0)
    (takes : (d : C) → 1 ≤ net.seconds d) (closed : IsClosed net starts bound Row) (attained : IsAttained net starts Row) where
  -- a row below the bound is the earliest exit of its cell
  pub row_earliest : (c : C) (v : ℕ) → Row c v → IsBelow bound v → IsEarliestExit net starts c v
  row_earliest c v row below = record { attained = attained.reached c v row; least = least }
    where
      least : (t : ℕ) → Reaches net starts c t → v ≤ t
      least t reach = elim (cases_lt t v) [ inl lt ↦ sooner lt | inr le ↦ le ]
        where
          sooner : t < v → v ≤ t
          sooner lt =
              let r = closed_covers net starts bound Row closed c t reach takes (IsBelow-less bound v t (omega arith) below) in
              omega (arith, r.2, attained.single c v r.0 row r.1)

  -- an earliest exit below the bound is a row
  pub earliest_row : (c : C) (v : ℕ) → IsEarliestExit net starts c v → IsBelow bound v → Row c v
  earliest_row c v earliest below =
      let r = closed_covers net starts bound Row closed c v earliest.attained takes below in
      let same : r.0 ≡ v = omega (arith, r.2, earliest.least r.0 (attained.reached c r.0 r.1)) in
      subst (λ u. Row c u) same r.1

  -- an earliest exit, also one at the bound, is a start entry or an expansion of a row with a smaller value
  pub earliest_equation : (c : C) (t : ℕ) → IsEarliestExit net starts c t → ((earlier : ℕ) → earlier < t → IsBelow bound earlier)
      → IsStartEntry net starts c t ⊎ ((d : C) × (v : ℕ) × Row d v × (v < t) × IsExpansion net d v c t)
  earliest_equation c t earliest below = go (reason_of net starts bound Row closed c t earliest.attained takes below)
    where
      go : ((v : ℕ) × IsStartEntry net starts c v × (v ≤ t)) ⊎ IsReason net Row c t → IsStartEntry net starts c t ⊎ ((d : C) × (v : ℕ) × Row d v × (v < t) × IsExpansion net d v c t)
      go (inl e) =
          let same : e.0 ≡ t = omega (arith, e.2, earliest.least e.0 (start_entry_reached net starts c e.0 e.1)) in
          inl (subst (λ u. IsStartEntry net starts c u) same e.1)
      go (inr e) =
          let reach = expansion_reached net starts e.before e.value c e.result (attained.reached e.before e.value e.row) e.expansion in
          let same : e.result ≡ t = omega (arith, e.in_time, earliest.least e.result reach) in
          inr (e.before, e.value, e.row, omega (arith, e.expansion.value, takes c), subst (λ u. IsExpansion net e.before e.value c u) same e.expansion)

-- an exact table is closed, if of each cell and value it can be told whether a row is as good
module _ {C : Type 0} (net : Network C) (starts : C → Option Start) (bound : Option ℕ) (Row : C → ℕ → Type 0)
    (exact : (c : C) (v : ℕ) → Row c v ↔ (IsEarliestExit net starts c v × IsBelow bound v)) (told : (c : C) (t : ℕ) → HasAsGood Row c t ⊎ (HasAsGood Row c t → ⊥)) where
  -- with no row as good, no walk ends by then: the first such end would be a row
  none_by : (c : C) (t : ℕ) → IsBelow bound t → (HasAsGood Row c t → ⊥) → (n u : ℕ) → u < n → u ≤ t → Reaches net starts c u → ⊥
  none_by c t below none zero u lt le reach = omega arith
  none_by c t below none (suc n) u lt le reach =
      let least : (end : ℕ) → Reaches net starts c end → u ≤ end = λ end other. elim (cases_lt end u) [ inl sooner ↦ absurd (none_by c t below none n end (omega arith) (omega arith) other) | inr later ↦ later ] in
      none (u, (exact c u).1 (record { attained = reach; least = least }, IsBelow-less bound t u le below), le)

  exact_covers : (c : C) (t : ℕ) → Reaches net starts c t → IsBelow bound t → HasAsGood Row c t
  exact_covers c t reach below = go (told c t)
    where
      go : HasAsGood Row c t ⊎ (HasAsGood Row c t → ⊥) → HasAsGood Row c t
      go (inl good) = good
      go (inr none) = absurd (none_by c t below none (suc t) t (omega arith) (omega arith) reach)

  pub exact_closed : IsClosed net starts bound Row
  exact_closed = record {
    starts_in = λ c t e below. exact_covers c t (start_entry_reached net starts c t e) below;
    expansions_in = λ c d v t row e below. exact_covers d t (expansion_reached net starts c v d t ((exact c v).0 row).0.attained e) below;
  }
