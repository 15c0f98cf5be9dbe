-- What stands in groups of arcs while they are gathered. No public clause cites these.
use Rattle.std.specs.Prelude.{ℕ, ◌≡◌, ◌/◌, ◌%◌, ◌<◌, ◌&&◌, ◌==◌, not, Bool, Vec, List, [], length, map, Option, Some, IsTrue, slice_get, slice_index_or, option_map, option_and_then}
use Rattle.std.specs.List.{list_any}
use Rattle.std.specs.declared.alloc.Global.{Global}
use Rattle.taxi_base.specs.declared.numbers.Node.{Node}
use Rattle.taxi_base.specs.declared.numbers.Arc.{Arc}
use Rattle.taxi_base.specs.Airport.{Link, ends_of_link, meet, is_forbidden}
use Rattle.segment_graph.specs.declared.links.Side.{Side}
use Rattle.segment_graph.specs.declared.links.Side.TheVariants.{Tail, Head}
use Rattle.segment_graph.specs.Graphs.{AreArcs, AreNodeRows}

-- the groups as lists
abbrev pub groups_of : List (Vec Arc Global) → List (List Arc)
groups_of groups = map (λ group. group.items) groups

-- an arc's ends by the segments alone
abbrev pub tail_in : List Link → Arc → Option Node
tail_in links arc = option_map (λ e. e.tail) (option_and_then (ends_of_link (arc.0 % 2)) (slice_get links (arc.0 / 2)))

abbrev pub head_in : List Link → Arc → Option Node
head_in links arc = option_map (λ e. e.head) (option_and_then (ends_of_link (arc.0 % 2)) (slice_get links (arc.0 / 2)))

abbrev pub end_in : Side → List Link → Arc → Option Node
end_in Tail links arc = tail_in links arc
end_in Head links arc = head_in links arc

-- each group has exactly the arcs, of those below a number, whose end is its node
pub record AreGrouped (End : Arc → Option Node) (below : ℕ) (groups : List (List Arc)) : Type 0 where
  pub each : (node : Node) → node.0 < length groups → AreArcs (λ a. (a.0 < below) × (End a ≡ Some node)) (slice_index_or groups node.0 [])

abbrev pub has_arc : List Arc → Arc → Bool
has_arc arcs y = list_any (λ a. a.0 == y.0) arcs

-- each arc's group has those to which a turn from it is forbidden
pub record AreBarred (forbidden : List (Arc × Arc)) (groups : List (List Arc)) : Type 0 where
  pub each : (x y : Arc) → has_arc (slice_index_or groups x.0 []) y ≡ is_forbidden forbidden x y

-- whether a turn is permitted between two arcs that meet, by the groups
abbrev pub may_turn : List (List Arc) → Arc → Arc → Bool
may_turn barred x y = not (x.0 / 2 == y.0 / 2) && not (has_arc (slice_index_or barred x.0 []) y)

-- whether a turn is permitted, by the segments and the groups
abbrev pub turn_in : List Link → List (List Arc) → Arc → Arc → Bool
turn_in links barred x y = meet (head_in links x) (tail_in links y) && may_turn barred x y

-- rows of the arcs by their end, and of the turns from and to each arc
abbrev pub AreEndRows : Side → List Link → ℕ → List (List Arc) → Type 0
AreEndRows side links nodes rows = AreNodeRows nodes (λ n. AreArcs (λ a. end_in side links a ≡ Some n)) rows

abbrev pub AreTurnsFrom : List Link → List (List Arc) → Arc → List Arc → Type 0
AreTurnsFrom links barred x row = AreArcs (λ y. IsTrue (turn_in links barred x y)) row

abbrev pub AreTurnsTo : List Link → List (List Arc) → Arc → List Arc → Type 0
AreTurnsTo links barred y row = AreArcs (λ x. IsTrue (turn_in links barred x y)) row
