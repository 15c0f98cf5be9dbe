-- Where can a class get to, whatever the traffic?
use Rattle.std.specs.Prelude.{◌≡◌, ◌<◌, ◌&&◌, ◌↔◌, Bool, true, false, IsTrue, List, [], ◌∷◌, length, Option, Some, None, is_some, slice_index_or}
use Rattle.taxi_base.specs.declared.numbers.Node.{Node}
use Rattle.taxi_base.specs.declared.numbers.Arc.{Arc}
use Rattle.taxi_base.specs.declared.numbers.Class.{Class}
use Rattle.taxi_base.specs.declared.rows.Kind.{Kind}
use Rattle.taxi_base.specs.declared.rows.Kind.TheVariants.{Runway, Junction, Stand}
use Rattle.taxi_base.specs.Airport.{Airport, Layout, layout_of, segment_of, arc_exists, tail, head, permits, seconds, is_runway, is_stand, is_of_kind}
use Rattle.class_ways.specs.declared.course.Course.{Course}
use Rattle.class_ways.specs.declared.course.Course.TheVariants.{Onward, Back}

-- ---- kinds

abbrev pub is_junction : Kind → Bool
is_junction Junction = true
is_junction _ = false

-- whether a node is of a kind
abbrev pub is_of : Kind → Airport → Node → Bool
is_of Runway airport node = is_of_kind is_runway airport node
is_of Junction airport node = is_of_kind is_junction airport node
is_of Stand airport node = is_of_kind is_stand airport node

-- ---- ways

-- an arc is open to a class that has seconds on its segment
unfoldable pub is_open : Airport → Class → Arc → Bool
is_open airport class arc = arc_exists (layout_of airport) arc && is_some (seconds airport class (segment_of arc))

-- A way of a class: at least one arc, each open to it, with a permitted turn from each to the next. Times don't count, nor does who is in
-- the way.
abbrev pub IsWay : Airport → Class → List Arc → Type 0
IsWay airport class [] = ⊥
IsWay airport class (x ∷ []) = IsTrue (is_open airport class x)
IsWay airport class (x ∷ y ∷ way) = IsTrue (is_open airport class x) × IsTrue (permits (layout_of airport) x y) × IsWay airport class (y ∷ way)

-- the node where some arcs begin, and the one where they end
abbrev pub begin_of : Layout → List Arc → Option Node
begin_of layout [] = None
begin_of layout (x ∷ way) = tail layout x

abbrev pub end_of : Layout → List Arc → Option Node
end_of layout [] = None
end_of layout (x ∷ []) = head layout x
end_of layout (x ∷ y ∷ way) = end_of layout (y ∷ way)

-- a class can get from one node to another
pub record Leads (airport : Airport) (class : Class) (from to : Node) : Type 0 where
  pub arcs : List Arc
  pub way : IsWay airport class arcs
  pub begins : begin_of (layout_of airport) arcs ≡ Some from
  pub ends : end_of (layout_of airport) arcs ≡ Some to

-- ---- courses

-- A class comes to a node on the course onward from the nodes of a kind: it can get there from one of them. On the course back it is the
-- other way round: it can get from the node to one of them.
abbrev pub Comes : Course → Kind → Airport → Class → Node → Type 0
Comes Onward kind airport class node = (other : Node) × IsTrue (is_of kind airport other) × Leads airport class other node
Comes Back kind airport class node = (other : Node) × IsTrue (is_of kind airport other) × Leads airport class node other

-- a mark for each node: whether the class comes to it
pub record AreMet (course : Course) (kind : Kind) (airport : Airport) (class : Class) (marks : List Bool) : Type 0 where
  pub count : length marks ≡ length airport.nodes
  pub each : (node : Node) → node.0 < length airport.nodes → IsTrue (slice_index_or marks node.0 false) ↔ Comes course kind airport class node
