-- Which walk is picked from a cell, of all that begin there latest? It is traced on from the cells' values.
use Rattle.std.specs.Prelude.{ℕ, ◌+◌, List, [], ◌∷◌, Option}
use Rattle.label_core.specs.Walks.{Network, Step}
use Rattle.label_core.specs.BackwardWalks.{Finish}
use Rattle.label_core.specs.BackwardLabels.{IsFinishEntry, IsExpansionBack}

-- of the cells whose latest entry expands back to value v of cell c, cell d with value w is the first in order
pub record IsFirstAfter {C : Type 0} (net : Network C) (Before : C → C → Type 0) (Value : C → ℕ → Type 0) (c : C) (v : ℕ) (d : C) (w : ℕ) : Type 0 where
  pub has : Value d w
  pub expands : IsExpansionBack net d w c v
  pub first : (x : C) (u : ℕ) → Before x d → Value x u → IsExpansionBack net x u c v → ⊥

-- the steps, the first one first, that are picked on from cell c with value v, which is entered at t: a finish entry
-- with the value ends them, else the first cell after goes on
pub data IsPickedOn {C : Type 0} (net : Network C) (finishes : C → Option Finish) (Before : C → C → Type 0) (Value : C → ℕ → Type 0) : C → ℕ → ℕ → List (Step C) → Type 0 where
  at_finish : {c : C} {v t : ℕ} → IsFinishEntry net finishes c v
      → IsPickedOn net finishes Before Value c v t (record { cell = c; enter = t; leave = v + net.seconds c } ∷ [])
  going_on : {c d : C} {v w t : ℕ} {steps : List (Step C)} → (IsFinishEntry net finishes c v → ⊥) → IsFirstAfter net Before Value c v d w
      → IsPickedOn net finishes Before Value d w (v + net.seconds c) steps
      → IsPickedOn net finishes Before Value c v t (record { cell = c; enter = t; leave = v + net.seconds c } ∷ steps)
