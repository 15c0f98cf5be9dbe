-- By which rules can a table of labels be checked that it leaves no walk out? For walks that end as is asked.
use Rattle.std.specs.Prelude.{ℕ, ◌≡◌, ◌+◌, ◌≤◌, min, IsTrue, List, Option, Some, None, All, AllPairs, Contains}
use Rattle.taxi_base.specs.declared.numbers.Node.{Node}
use Rattle.taxi_base.specs.declared.rows.LabelRow.{LabelRow}
use Rattle.taxi_base.specs.declared.answers.Found.{Found}
use Rattle.taxi_base.specs.declared.answers.Found.TheVariants.{Route, NoRoute}
use Rattle.taxi_base.specs.Airport.{layout_of, permits, tail, head}
use Rattle.taxi_base.specs.Walks.{Conditions, last_of, begin_of}
use Rattle.taxi_base.specs.Labels.{window_of, seconds_of, precedes}
use Rattle.label_core.specs.BackwardTables.{IsAbove}
use Rattle.walk_labels.specs.Places.{IsPlace, place_of}
use Rattle.taxi_base.specs.Choices.{OneOf}

-- a walk that ends at one of the nodes within a time enters the label's place at its value at the latest
pub record IsFinishAt (c : Conditions) (nodes : List Node) (earliest latest : ℕ) (label : LabelRow) : Type 0 where
  pub is_place : IsPlace c (place_of label)
  pub reaches : OneOf (λ node. head (layout_of c.airport) label.arc ≡ Some node) nodes
  pub not_early : earliest ≤ min latest (last_of c (window_of label))
  pub value : label.value + seconds_of c label ≡ min latest (last_of c (window_of label))
  pub in_window : label.from ≤ label.value

-- a walk that can enter one label's place at its value, and comes by the previous one's, enters that at its value at the latest
pub record IsPrevious (c : Conditions) (label previous : LabelRow) : Type 0 where
  pub is_place : IsPlace c (place_of previous)
  pub permitted : IsTrue (permits (layout_of c.airport) previous.arc label.arc)
  pub already_held : label.from ≤ min label.value (last_of c (window_of previous))
  pub value : previous.value + seconds_of c previous ≡ min label.value (last_of c (window_of previous))
  pub in_window : previous.from ≤ previous.value

-- a row has the label's arc and window, and a value that is at least as late
abbrev pub HasAsLate : List LabelRow → LabelRow → Type 0
HasAsLate rows label = (v : ℕ) × Contains rows (record label { value = v }) × (label.value ≤ v)

-- The rows are of places, in order. Each finish, and each label that comes of a row, if above the bound, has a row that is
-- at least as late. No row leads away from the node, and each is above the bound.
pub record PassesBackward (c : Conditions) (IsFinish : LabelRow → Type 0) (from : Node) (bound : Option ℕ) (rows : List LabelRow) : Type 0 where
  pub ordered : AllPairs (λ p q. IsTrue (precedes p q)) rows
  pub at_places : All (λ row. IsPlace c (place_of row)) rows
  pub finishes_in : (label : LabelRow) → IsFinish label → IsAbove bound label.value → HasAsLate rows label
  pub previous_in : (row previous : LabelRow) → Contains rows row → IsPrevious c row previous → IsAbove bound previous.value → HasAsLate rows previous
  pub none_leaves : All (λ row. tail (layout_of c.airport) row.arc ≡ Some from → ⊥) rows
  pub short : All (λ row. IsAbove bound row.value) rows

-- the table that is answered passes with the begin of the route, or with no bound where there is no route
abbrev pub PassesDeparture : Conditions → (LabelRow → Type 0) → Node → Found → Type 0
PassesDeparture c IsFinish from (Route steps labels) = PassesBackward c IsFinish from (Some (begin_of steps)) labels
PassesDeparture c IsFinish from (NoRoute labels) = PassesBackward c IsFinish from None labels

-- where only walks that begin after a second count, the second is the bound where there is no route
abbrev pub PassesDepartureAfter : Conditions → (LabelRow → Type 0) → Node → ℕ → Found → Type 0
PassesDepartureAfter c IsFinish from bound (Route steps labels) = PassesBackward c IsFinish from (Some (begin_of steps)) labels
PassesDepartureAfter c IsFinish from bound (NoRoute labels) = PassesBackward c IsFinish from (Some bound) labels
