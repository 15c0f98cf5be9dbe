-- When does a table of such values leave out no walk?
use Rattle.std.specs.Prelude.{ℕ, ◌≤◌, ◌<◌, Option, Some, None}
use Rattle.label_core.specs.Walks.{Network}
use Rattle.label_core.specs.BackwardWalks.{Finish}
use Rattle.label_core.specs.BackwardLabels.{IsFinishEntry, IsExpansionBack}

-- the value is above the bound, if there is one
abbrev pub IsAbove : Option ℕ → ℕ → Type 0
IsAbove None t = Unit {0}
IsAbove (Some bound) t = bound < t

-- the table has a row for cell c that is at least as late as t
abbrev pub HasAsLate : {C : Type 0} → (C → ℕ → Type 0) → C → ℕ → Type 0
HasAsLate Row c t = (v : ℕ) × Row c v × (t ≤ v)

-- each finish entry and each expansion of a row, if above the bound, has a row at least as late
pub record IsClosedBack {C : Type 0} (net : Network C) (finishes : C → Option Finish) (bound : Option ℕ) (Row : C → ℕ → Type 0) : Type 0 where
  pub finishes_in : (c : C) (t : ℕ) → IsFinishEntry net finishes c t → IsAbove bound t → HasAsLate Row c t
  pub expansions_in : (d c : C) (v t : ℕ) → Row d v → IsExpansionBack net d v c t → IsAbove bound t → HasAsLate Row c t
