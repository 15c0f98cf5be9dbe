-- Which starts, finishes and targets of cells say how a walk over the airport begins, ends and whereto it leads?
use Rattle.std.specs.Prelude.{ℕ, ◌≡◌, ◌↔◌, ◌≤◌, ⊤, Bool, ◌&&◌, ◌==◌, IsTrue, List, map, Option, Some, None, if◌then◌else◌}
use Rattle.std.specs.List.{list_any}
use Rattle.taxi_base.specs.declared.numbers.Node.{Node}
use Rattle.taxi_base.specs.declared.numbers.Arc.{Arc}
use Rattle.taxi_base.specs.declared.rows.Step.{Step}
use Rattle.taxi_base.specs.Airport.{Layout, layout_of, tail, head, meet}
use Rattle.taxi_base.specs.Walks.{Conditions, IsFeasibleStep, LeavesNodeWithin, Resumes}
use Rattle.taxi_base.specs.Choices.{OneOf}
use Rattle.label_core.specs.Walks.{Network, Start, Step as CellStep, IsStep, Begins as BeginsInCell}
use Rattle.label_core.specs.BackwardWalks.{Finish, Finishes}
use Rattle.walk_labels.specs.Places.{Place, IsPlace}

-- a walk over cells
abbrev pub Walk : Type 0 → Type 0
Walk C = List (CellStep C)

-- the step over the airport for a step over cells
abbrev pub step_at : {C : Type 0} → (C → Place) → CellStep C → Step
step_at place s = record { arc = (place s.cell).arc; enter = s.enter; leave = s.leave }

abbrev pub steps_at : {C : Type 0} → (C → Place) → List (CellStep C) → List Step
steps_at place walk = map (step_at place) walk

-- how a walk may begin: at a node within a time, or by going on with a step that was begun, and leaving it not before a time
pub data Beginning : Type 0 where
  at_node : (node : Node) (earliest latest : ℕ) → Beginning
  resuming : (begun : Step) (exit_from : ℕ) → Beginning

abbrev pub BeginsBy : Layout → Beginning → Step → Type 0
BeginsBy layout (at_node node earliest latest) = LeavesNodeWithin layout node earliest latest
BeginsBy layout (resuming begun exit_from) = Resumes begun exit_from

-- a step that is to be gone on with can be made
abbrev pub CanBegin : Conditions → Beginning → Type 0
CanBegin c (at_node node earliest latest) = ⊤
CanBegin c (resuming begun exit_from) = IsFeasibleStep c begun

-- and it is not left before the time from which it may be left
abbrev pub BeginsInTime : Beginning → Type 0
BeginsInTime (at_node node earliest latest) = ⊤
BeginsInTime (resuming begun exit_from) = exit_from ≤ begun.leave

-- whether an arc leads to one of some nodes
abbrev pub leads_to_one_of : Layout → List Node → Arc → Bool
leads_to_one_of layout nodes arc = list_any (λ node. meet (head layout arc) (Some node)) nodes

-- ---- what ties cells to them

-- a step at a place begins so just where the starts say that it may
pub record AreStarts {C : Type 0} (c : Conditions) (net : Network C) (place : C → Place) (Begins : Step → Type 0) (starts : C → Option Start) : Type 0 where
  pub inside : (x : C) (s : Start) → starts x ≡ Some s → IsPlace c (place x)
  pub exact : (s : CellStep C) → IsPlace c (place s.cell) → IsStep net s → Begins (step_at place s) ↔ BeginsInCell starts s

-- a step at a place ends so just where the finishes say that it may
pub record AreFinishes {C : Type 0} (c : Conditions) (net : Network C) (place : C → Place) (Ends : Step → Type 0) (finishes : C → Option Finish) : Type 0 where
  pub inside : (x : C) (f : Finish) → finishes x ≡ Some f → IsPlace c (place x)
  pub exact : (s : CellStep C) → IsPlace c (place s.cell) → IsStep net s → Ends (step_at place s) ↔ Finishes finishes s

-- the cells at a place whose arc leads to one of the nodes
abbrev pub AreTargets : {C : Type 0} → Conditions → (C → Place) → List Node → (C → Bool) → Type 0
AreTargets {C} c place to target = (x : C) → IsPlace c (place x) → IsTrue (target x) ↔ OneOf (λ node. head (layout_of c.airport) (place x).arc ≡ Some node) to

-- the cells at a place whose arc leads away from the node
abbrev pub AreSources : {C : Type 0} → Conditions → (C → Place) → Node → (C → Bool) → Type 0
AreSources {C} c place from source = (x : C) → IsPlace c (place x) → IsTrue (source x) ↔ (tail (layout_of c.airport) (place x).arc ≡ Some from)

-- ---- the starts and finishes of requests, at the cells that pass a test

-- at a node within a time
abbrev pub starts_at_node : {C : Type 0} → Layout → (C → Bool) → (C → Place) → Node → ℕ → ℕ → C → Option Start
starts_at_node layout inside place node earliest latest x =
    if inside x && meet (tail layout (place x).arc) (Some node) then Some (record { earliest = earliest; latest = latest; exit_from = 0 }) else None

-- by a step that was begun
abbrev pub starts_resuming : {C : Type 0} → (C → Bool) → (C → Place) → Step → ℕ → C → Option Start
starts_resuming inside place begun exit_from x =
    if inside x && ((place x).arc.0 == begun.arc.0) then Some (record { earliest = begun.enter; latest = begun.enter; exit_from = exit_from }) else None

abbrev pub starts_by : {C : Type 0} → Layout → (C → Bool) → (C → Place) → Beginning → C → Option Start
starts_by layout inside place (at_node node earliest latest) = starts_at_node layout inside place node earliest latest
starts_by layout inside place (resuming begun exit_from) = starts_resuming inside place begun exit_from

-- at one of the nodes within a time
abbrev pub finishes_at : {C : Type 0} → Layout → (C → Bool) → (C → Place) → List Node → ℕ → ℕ → C → Option Finish
finishes_at layout inside place nodes earliest latest x =
    if inside x && leads_to_one_of layout nodes (place x).arc then Some (record { earliest_out = earliest; latest_out = latest }) else None

-- to one of the nodes, and from a node
abbrev pub targets_at : {C : Type 0} → Layout → (C → Place) → List Node → C → Bool
targets_at layout place nodes x = leads_to_one_of layout nodes (place x).arc

abbrev pub sources_at_node : {C : Type 0} → Layout → (C → Place) → Node → C → Bool
sources_at_node layout place node x = meet (tail layout (place x).arc) (Some node)
