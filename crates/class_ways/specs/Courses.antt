-- How does a course go from arc to arc? No public clause cites these.
use Rattle.std.specs.Prelude.{ℕ, ◌≡◌, ◌<◌, ◌&&◌, ◌↔◌, Bool, false, IsTrue, List, [], ◌∷◌, length, Option, Some, slice_get, slice_index_or, MatchOption}
use Rattle.std.specs.Option.{option_map_or}
use Rattle.taxi_base.specs.declared.numbers.Node.{Node}
use Rattle.taxi_base.specs.declared.numbers.Arc.{Arc}
use Rattle.taxi_base.specs.declared.numbers.Class.{Class}
use Rattle.taxi_base.specs.declared.rows.Kind.{Kind}
use Rattle.taxi_base.specs.Airport.{Airport, Layout, layout_of, tail, head, permits}
use Rattle.class_ways.specs.declared.course.Course.{Course}
use Rattle.class_ways.specs.declared.course.Course.TheVariants.{Onward, Back}
use Rattle.class_ways.specs.Ways.{is_of, is_open}
use Rattle.class_ways.specs.Found.{FoundArcs, has_arc, Gained}

-- whether an arc may follow another on the course
abbrev pub turns : Course → Layout → Arc → Arc → Bool
turns Onward layout x y = permits layout x y
turns Back layout x y = permits layout y x

-- the node of an arc that is met first on the course, and the other one
abbrev pub near : Course → Layout → Arc → Option Node
near Onward layout x = tail layout x
near Back layout x = head layout x

abbrev pub far : Course → Layout → Arc → Option Node
far Onward layout x = head layout x
far Back layout x = tail layout x

-- whether a course may begin with an arc: it is open, and begins at a node of the kind
abbrev pub is_start : Course → Kind → Airport → Class → Arc → Bool
is_start course kind airport class arc = is_open airport class arc && option_map_or (is_of kind airport) (near course (layout_of airport) arc) false

-- an arc may follow another on the course, and is open
abbrev pub IsOpenTurn : Course → Airport → Class → Arc → Arc → Type 0
IsOpenTurn course airport class x y = IsTrue (turns course (layout_of airport) x y) × IsTrue (is_open airport class y)

-- a course that begins with arcs that pass a test came to an arc over these others, the last of them first
abbrev pub IsComing : Course → Airport → Class → (Arc → Bool) → Arc → List Arc → Type 0
IsComing course airport class begins y [] = IsTrue (begins y)
IsComing course airport class begins y (x ∷ before) = IsOpenTurn course airport class x y × IsComing course airport class begins x before

abbrev pub IsMet : Course → Airport → Class → (Arc → Bool) → Arc → Type 0
IsMet course airport class begins arc = (before : List Arc) × IsComing course airport class begins arc before

-- a mark for each node: whether the course comes to it on one of some arcs
pub record AreMarksOf (course : Course) (airport : Airport) (arcs : List Arc) (marks : List Bool) : Type 0 where
  pub count : length marks ≡ length airport.nodes
  pub each : (node : Node) → node.0 < length airport.nodes
      → IsTrue (slice_index_or marks node.0 false) ↔ ((arc : Arc) × (far course (layout_of airport) arc ≡ Some node) × IsTrue (has_arc arcs arc))

-- the arcs that may follow the one at a place were found too; nothing changed where there is none
abbrev pub IsGoneOn : Course → Airport → Class → ℕ → FoundArcs → FoundArcs → Type 0
IsGoneOn course airport class at old new = MatchOption (slice_get old.arcs at) (new ≡ old) (λ x. Gained (IsOpenTurn course airport class x) old new)
