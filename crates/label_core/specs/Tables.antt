-- When does a table of values leave out no walk? A row gives a cell a value.
use Rattle.std.specs.Prelude.{◌≡◌, ℕ, ◌≤◌, ◌<◌, Option, Some, None}
use Rattle.label_core.specs.Walks.{Network, Start, Reaches}
use Rattle.label_core.specs.Labels.{IsStartEntry, IsExpansion}

-- the value is below the bound, if there is one
abbrev pub IsBelow : Option ℕ → ℕ → Type 0
IsBelow None t = Unit {0}
IsBelow (Some bound) t = t < bound

-- the table has a row for cell c that is at least as good as t
abbrev pub HasAsGood : {C : Type 0} → (C → ℕ → Type 0) → C → ℕ → Type 0
HasAsGood Row c t = (v : ℕ) × Row c v × (v ≤ t)

-- each start entry and each expansion of a row, if below the bound, has a row at least as good
pub record IsClosed {C : Type 0} (net : Network C) (starts : C → Option Start) (bound : Option ℕ) (Row : C → ℕ → Type 0) : Type 0 where
  pub starts_in : (c : C) (t : ℕ) → IsStartEntry net starts c t → IsBelow bound t → HasAsGood Row c t
  pub expansions_in : (c d : C) (v t : ℕ) → Row c v → IsExpansion net c v d t → IsBelow bound t → HasAsGood Row d t

-- each row is the end of a walk, and no cell has two rows
pub record IsAttained {C : Type 0} (net : Network C) (starts : C → Option Start) (Row : C → ℕ → Type 0) : Type 0 where
  pub reached : (c : C) (v : ℕ) → Row c v → Reaches net starts c v
  pub single : (c : C) (v w : ℕ) → Row c v → Row c w → v ≡ w
