-- Which walks from the sources are best, and which of them is the picked route?
use Rattle.std.specs.Prelude.{◌≡◌, ℕ, ◌≤◌, Bool, true, List, Option}
use Rattle.label_core.specs.Walks.{Network, Step}
use Rattle.label_core.specs.BackwardWalks.{Finish, Leads, IsLatestEntry}
use Rattle.label_core.specs.BackwardPicked.{IsPickedOn}

-- the best begin: a walk from a source begins at it, and none begins later
pub record IsBestBegin {C : Type 0} (net : Network C) (finishes : C → Option Finish) (source : C → Bool) (begin : ℕ) : Type 0 where
  pub cell : C
  pub is_source : source cell ≡ true
  pub attained : Leads net finishes cell begin
  pub greatest : (c : C) (t : ℕ) → source c ≡ true → Leads net finishes c t → t ≤ begin

-- no walk leads from a source
abbrev pub HasNoWalkFrom : {C : Type 0} → Network C → (C → Option Finish) → (C → Bool) → Type 0
HasNoWalkFrom {C} net finishes source = (c : C) (t : ℕ) → source c ≡ true → Leads net finishes c t → ⊥

-- the cell is the first source, in order, whose latest entry is the value
pub record IsFirstBegin {C : Type 0} (net : Network C) (finishes : C → Option Finish) (Before : C → C → Type 0) (source : C → Bool) (value : ℕ) (cell : C) : Type 0 where
  pub is_source : source cell ≡ true
  pub latest : IsLatestEntry net finishes cell value
  pub first : (x : C) → Before x cell → source x ≡ true → IsLatestEntry net finishes x value → ⊥

-- the steps of the picked route: on from the first source with the best begin
pub record IsPickedRouteOn {C : Type 0} (net : Network C) (finishes : C → Option Finish) (Before : C → C → Type 0) (source : C → Bool) (begin : ℕ) (steps : List (Step C)) : Type 0 where
  pub cell : C
  pub first : IsFirstBegin net finishes Before source begin cell
  pub picked : IsPickedOn net finishes Before (IsLatestEntry net finishes) cell begin begin steps
