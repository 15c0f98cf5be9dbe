-- Which walks to the targets are best, and which of them is the picked route?
use Rattle.std.specs.Prelude.{◌≡◌, ℕ, ◌≤◌, List, Bool, Option, reverse, true}
use Rattle.label_core.specs.Walks.{Network, Start, Step, Reaches, IsEarliestExit}
use Rattle.label_core.specs.Picked.{IsPicked}

-- the best end: a walk to a target ends at it, and none ends sooner
pub record IsBestEnd {C : Type 0} (net : Network C) (starts : C → Option Start) (target : C → Bool) (end : ℕ) : Type 0 where
  pub cell : C
  pub is_target : target cell ≡ true
  pub attained : Reaches net starts cell end
  pub least : (c : C) (t : ℕ) → target c ≡ true → Reaches net starts c t → end ≤ t

-- no walk reaches a target
abbrev pub HasNoWalk : {C : Type 0} → Network C → (C → Option Start) → (C → Bool) → Type 0
HasNoWalk {C} net starts target = (c : C) (t : ℕ) → target c ≡ true → Reaches net starts c t → ⊥

-- the cell is the first target, in order, whose earliest exit is the value
pub record IsFirstBest {C : Type 0} (net : Network C) (starts : C → Option Start) (Before : C → C → Type 0) (target : C → Bool) (value : ℕ) (cell : C) : Type 0 where
  pub is_target : target cell ≡ true
  pub earliest : IsEarliestExit net starts cell value
  pub first : (x : C) → Before x cell → target x ≡ true → IsEarliestExit net starts x value → ⊥

-- the steps of the picked route: back from the first target with the best end
pub record IsPickedRoute {C : Type 0} (net : Network C) (starts : C → Option Start) (Before : C → C → Type 0) (target : C → Bool) (end : ℕ) (steps : List (Step C)) : Type 0 where
  pub cell : C
  pub last : IsFirstBest net starts Before target end cell
  pub picked : IsPicked net starts Before (IsEarliestExit net starts) cell end end (reverse steps)
