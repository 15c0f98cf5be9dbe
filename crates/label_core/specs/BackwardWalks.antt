-- What is a walk that ends as is asked, and which is the latest entry of a cell?
use Rattle.std.specs.Prelude.{◌≡◌, ℕ, ◌≤◌, List, [], ◌∷◌, Option, Some}
use Rattle.label_core.specs.Walks.{Network, Step, IsChain}

-- how a walk may end: when it may leave its last cell
pub record Finish : Type 0 where
  pub earliest_out : ℕ
  pub latest_out : ℕ

-- there is a finish at the step's cell, and the step leaves as it says
pub record Finishes {C : Type 0} (finishes : C → Option Finish) (s : Step C) : Type 0 where
  pub finish : Finish
  pub here : finishes s.cell ≡ Some finish
  pub not_early : finish.earliest_out ≤ s.leave
  pub not_late : s.leave ≤ finish.latest_out

-- the last of the steps ends as the finishes say
abbrev pub LastFinishes : {C : Type 0} → (C → Option Finish) → List (Step C) → Type 0
LastFinishes finishes [] = ⊥
LastFinishes finishes (s ∷ []) = Finishes finishes s
LastFinishes finishes (s ∷ u ∷ rest) = LastFinishes finishes (u ∷ rest)

-- a walk that ends as the finishes say
pub record IsWalkTo {C : Type 0} (net : Network C) (finishes : C → Option Finish) (walk : List (Step C)) : Type 0 where
  pub chain : IsChain net walk
  pub ends : LastFinishes finishes walk

-- the first step is by cell c, and enters it at t
abbrev pub BeginsAt : {C : Type 0} → List (Step C) → C → ℕ → Type 0
BeginsAt [] c t = ⊥
BeginsAt (s ∷ rest) c t = (s.cell ≡ c) × (s.enter ≡ t)

-- some walk that ends as the finishes say begins by cell c at t
pub record Leads {C : Type 0} (net : Network C) (finishes : C → Option Finish) (c : C) (t : ℕ) : Type 0 where
  pub walk : List (Step C)
  pub is_walk : IsWalkTo net finishes walk
  pub begins : BeginsAt walk c t

-- t is the greatest begin of all walks whose first step is by cell c
pub record IsLatestEntry {C : Type 0} (net : Network C) (finishes : C → Option Finish) (c : C) (t : ℕ) : Type 0 where
  pub attained : Leads net finishes c t
  pub greatest : (begin : ℕ) → Leads net finishes c begin → begin ≤ t
