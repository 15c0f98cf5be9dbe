-- By which rules can a table of labels be checked that it leaves no walk out? For walks that begin as is asked.
use Rattle.std.specs.Prelude.{ℕ, ◌≡◌, ◌+◌, ◌≤◌, max, IsTrue, List, Option, Some, None, All, AllPairs, Contains}
use Rattle.taxi_base.specs.declared.numbers.Node.{Node}
use Rattle.taxi_base.specs.declared.rows.Step.{Step}
use Rattle.taxi_base.specs.declared.rows.LabelRow.{LabelRow}
use Rattle.taxi_base.specs.declared.answers.Found.{Found}
use Rattle.taxi_base.specs.declared.answers.Found.TheVariants.{Route, NoRoute}
use Rattle.taxi_base.specs.Airport.{layout_of, permits, tail, head}
use Rattle.taxi_base.specs.Walks.{Conditions, IsInside, last_of, end_of}
use Rattle.taxi_base.specs.Labels.{window_of, seconds_of, precedes}
use Rattle.label_core.specs.Tables.{IsBelow}
use Rattle.walk_labels.specs.Places.{IsPlace, place_of}
use Rattle.walk_labels.specs.Requests.Beginning.{at_node, resuming}
use Rattle.taxi_base.specs.Choices.{OneOf}
use Rattle.walk_labels.specs.Requests.{Beginning}

-- ---- labels that come of no other, and of another

-- a walk that begins at the node within a time leaves the label's place at its value at the soonest
pub record IsStartAtNode (c : Conditions) (node : Node) (earliest latest : ℕ) (label : LabelRow) : Type 0 where
  pub is_place : IsPlace c (place_of label)
  pub leaves : tail (layout_of c.airport) label.arc ≡ Some node
  pub not_late : max earliest label.from ≤ latest
  pub value : label.value ≡ max earliest label.from + seconds_of c label
  pub in_window : label.value ≤ last_of c (window_of label)

-- and one that goes on with a step that was begun, and not before a time
pub record IsStartResuming (c : Conditions) (begun : Step) (exit_from : ℕ) (label : LabelRow) : Type 0 where
  pub is_place : IsPlace c (place_of label)
  pub arc : label.arc ≡ begun.arc
  pub window : IsInside c (window_of label) begun
  pub value : label.value ≡ max exit_from (begun.enter + seconds_of c label)

abbrev pub IsStartBy : Conditions → Beginning → LabelRow → Type 0
IsStartBy c (at_node node earliest latest) = IsStartAtNode c node earliest latest
IsStartBy c (resuming begun exit_from) = IsStartResuming c begun exit_from

-- a walk that can leave one label's place at its value, and goes on by the next one's, leaves that at its value at the soonest
pub record IsNext (c : Conditions) (label next : LabelRow) : Type 0 where
  pub is_place : IsPlace c (place_of next)
  pub permitted : IsTrue (permits (layout_of c.airport) label.arc next.arc)
  pub still_held : max label.value next.from ≤ last_of c (window_of label)
  pub value : next.value ≡ max label.value next.from + seconds_of c next
  pub in_window : next.value ≤ last_of c (window_of next)

-- ---- the rules

-- a row has the label's arc and window, and a value that is at least as early
abbrev pub HasAsEarly : List LabelRow → LabelRow → Type 0
HasAsEarly rows label = (v : ℕ) × Contains rows (record label { value = v }) × (v ≤ label.value)

-- The rows are of places, in order. Each start, and each label that comes of a row, if below the bound, has a row that is
-- at least as early. No row leads to one of the nodes, and each is below the bound.
pub record PassesForward (c : Conditions) (IsStart : LabelRow → Type 0) (to : List Node) (bound : Option ℕ) (rows : List LabelRow) : Type 0 where
  pub ordered : AllPairs (λ p q. IsTrue (precedes p q)) rows
  pub at_places : All (λ row. IsPlace c (place_of row)) rows
  pub starts_in : (label : LabelRow) → IsStart label → IsBelow bound label.value → HasAsEarly rows label
  pub next_in : (row next : LabelRow) → Contains rows row → IsNext c row next → IsBelow bound next.value → HasAsEarly rows next
  pub none_reaches : All (λ row. OneOf (λ node. head (layout_of c.airport) row.arc ≡ Some node) to → ⊥) rows
  pub short : All (λ row. IsBelow bound row.value) rows

-- the table that is answered passes with the end of the route, or with no bound where there is no route
abbrev pub PassesArrival : Conditions → (LabelRow → Type 0) → List Node → Found → Type 0
PassesArrival c IsStart to (Route steps labels) = PassesForward c IsStart to (Some (end_of steps)) labels
PassesArrival c IsStart to (NoRoute labels) = PassesForward c IsStart to None labels
