-- What a closed table with no row at a target says of all walks.
use Rattle.std.proofs.Common.{ℕ, ◌≤◌, ◌<◌, Option, Some, None, inl, inr}
use Rattle.std.proofs.lemmas.Bool.{cases_lt}
use Rattle.label_core.specs.Walks.{Network, Start, Reaches}
use Rattle.label_core.specs.Tables.{IsClosed}
use Rattle.label_core.proofs.ClosedTables.{closed_covers}

module _ {C : Type 0} (net : Network C) (starts : C → Option Start) (Row : C → ℕ → Type 0) (IsTarget : C → Type 0)
    (takes : (d : C) → 1 ≤ net.seconds d) (no_row : (c : C) (v : ℕ) → IsTarget c → Row c v → ⊥) where
  -- no walk to a target ends below the bound
  pub none_sooner : (bound : ℕ) → IsClosed net starts (Some bound) Row → (c : C) (t : ℕ) → IsTarget c → Reaches net starts c t → bound ≤ t
  none_sooner bound closed c t target reach = elim (cases_lt t bound) [ inl lt ↦ sooner lt | inr le ↦ le ]
    where
      sooner : t < bound → bound ≤ t
      sooner lt =
          let r = closed_covers net starts (Some bound) Row closed c t reach takes lt in
          absurd (no_row c r.0 target r.1)

  -- with no bound, there is no walk to a target
  pub none_at_all : IsClosed net starts None Row → (c : C) (t : ℕ) → IsTarget c → Reaches net starts c t → ⊥
  none_at_all closed c t target reach =
      let r = closed_covers net starts None Row closed c t reach takes tt in
      no_row c r.0 target r.1
