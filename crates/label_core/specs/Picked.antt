-- Which walk is picked to a cell, of all that end there soonest? It is traced back from the cells' values.
use Rattle.std.specs.Prelude.{ℕ, ◌-◌, List, [], ◌∷◌, Option}
use Rattle.label_core.specs.Walks.{Network, Start, Step}
use Rattle.label_core.specs.Labels.{entry, IsStartEntry, IsExpansion}

-- of the cells whose value expands to value v of cell c, cell d with value w is the first in order
pub record IsFirstBefore {C : Type 0} (net : Network C) (Before : C → C → Type 0) (Value : C → ℕ → Type 0) (c : C) (v : ℕ) (d : C) (w : ℕ) : Type 0 where
  pub has : Value d w
  pub expands : IsExpansion net d w c v
  pub first : (x : C) (u : ℕ) → Before x d → Value x u → IsExpansion net x u c v → ⊥

-- the steps, the last one first, that are picked back from cell c with value v, which is left at t: a start entry
-- with the value ends them, else the first cell before goes on
pub data IsPicked {C : Type 0} (net : Network C) (starts : C → Option Start) (Before : C → C → Type 0) (Value : C → ℕ → Type 0) : C → ℕ → ℕ → List (Step C) → Type 0 where
  at_start : {c : C} {v t : ℕ} (e : IsStartEntry net starts c v)
      → IsPicked net starts Before Value c v t (record { cell = c; enter = entry net c e.start.earliest; leave = t } ∷ [])
  going_back : {c d : C} {v w t : ℕ} {steps : List (Step C)} → (IsStartEntry net starts c v → ⊥) → IsFirstBefore net Before Value c v d w
      → IsPicked net starts Before Value d w (v - net.seconds c) steps
      → IsPicked net starts Before Value c v t (record { cell = c; enter = v - net.seconds c; leave = t } ∷ steps)
