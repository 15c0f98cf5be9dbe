-- What is odd about an airport?
use Rattle.std.specs.Prelude.{ℕ, zero, suc, ◌≡◌, ◌⊎◌, ◌+◌, ◌&&◌, nat_lt, Bool, true, IsTrue, IsFalse, List, [], ◌∷◌, ◌++◌, length, filter, flat_map, Some, None, is_some, slice_index_or}
use Rattle.std.specs.List.{list_any}
use Rattle.taxi_base.specs.declared.numbers.Node.{Node}
use Rattle.taxi_base.specs.declared.numbers.Segment.{Segment}
use Rattle.taxi_base.specs.declared.numbers.Arc.{Arc}
use Rattle.taxi_base.specs.declared.numbers.Class.{Class}
use Rattle.taxi_base.specs.declared.rows.Kind.{Kind}
use Rattle.taxi_base.specs.declared.rows.Kind.TheVariants.{Runway, Junction, Stand}
use Rattle.taxi_base.specs.Airport.{Airport, layout_of, segment_of, head, permits, times_of}
use Rattle.class_ways.specs.declared.course.Course.{Course}
use Rattle.class_ways.specs.declared.course.Course.TheVariants.{Onward, Back}
use Rattle.class_ways.specs.Ways.{is_of, Comes}
use Rattle.airport_lint.specs.declared.advice.Advice.{Advice}
use Rattle.airport_lint.specs.declared.advice.Advice.TheVariants.{ClassNoSeconds, ClassNoArrival, ClassNoDeparture, SegmentNoSeconds, NodeNoArrival, NodeNoDeparture, NodeUnused, DeadEnd, IdleTurn, SameSet, NeedlessSet}
use Rattle.airport_lint.specs.Sets.{first_like, needed_marks}

-- ---- seconds

-- whether a class has seconds on some segment
abbrev pub has_seconds : Airport → Class → Bool
has_seconds airport class = list_any is_some (slice_index_or (times_of airport) class.0 [])

-- whether some class has seconds on both segments
unfoldable pub is_shared : Airport → Segment → Segment → Bool
is_shared airport one other = list_any (λ times. is_some (slice_index_or times one.0 None) && is_some (slice_index_or times other.0 None)) (times_of airport)

-- ---- ways

-- a class can get from some node of a kind to some of another
abbrev pub Connects : Kind → Kind → Airport → Class → Type 0
Connects from to airport class = (node : Node) × IsTrue (is_of to airport node) × Comes Onward from airport class node

-- some class comes to a node on a course from the nodes of a kind
abbrev pub SomeComes : Course → Kind → Airport → Node → Type 0
SomeComes course kind airport node = (class : Class) × Comes course kind airport class node

-- a class may come to a junction by an arc, and none that does may go on from there
pub record IsDeadEnd (airport : Airport) (arc : Arc) : Type 0 where
  pub node : Node
  pub comes_to : head (layout_of airport) arc ≡ Some node
  pub junction : IsTrue (is_of Junction airport node)
  pub used : IsTrue (is_shared airport (segment_of arc) (segment_of arc))
  pub stops : (next : Arc) → IsTrue (permits (layout_of airport) arc next) → IsFalse (is_shared airport (segment_of arc) (segment_of next))

-- ---- what is so

abbrev pub IsSo : Airport → Advice → Type 0
IsSo airport (ClassNoSeconds class) = IsFalse (has_seconds airport class)
IsSo airport (ClassNoArrival class) = IsTrue (has_seconds airport class) × (Connects Runway Stand airport class → ⊥)
IsSo airport (ClassNoDeparture class) = IsTrue (has_seconds airport class) × (Connects Stand Runway airport class → ⊥)
IsSo airport (SegmentNoSeconds segment) = IsFalse (is_shared airport segment segment)
IsSo airport (NodeNoArrival node) =
    (IsTrue (is_of Stand airport node) × (SomeComes Onward Runway airport node → ⊥))
    ⊎ (IsTrue (is_of Runway airport node) × (SomeComes Back Stand airport node → ⊥))
IsSo airport (NodeNoDeparture node) =
    (IsTrue (is_of Stand airport node) × (SomeComes Back Runway airport node → ⊥))
    ⊎ (IsTrue (is_of Runway airport node) × (SomeComes Onward Stand airport node → ⊥))
IsSo airport (NodeUnused node) =
    IsTrue (is_of Junction airport node) × (SomeComes Onward Runway airport node → ⊥) × (SomeComes Onward Stand airport node → ⊥)
IsSo airport (DeadEnd arc) = IsDeadEnd airport arc
IsSo airport (IdleTurn x y) = IsFalse (is_shared airport (segment_of x) (segment_of y))
IsSo airport (SameSet set first) = IsTrue (nat_lt first set)
IsSo airport (NeedlessSet set) = (first_like airport.conflicts set ≡ set) × IsFalse (slice_index_or (needed_marks [] airport.conflicts) set true)

-- the airport without the forbidden turns that are idle
abbrev pub without_idle : Airport → Airport
without_idle airport = record airport { forbidden = filter (λ turn. is_shared airport (segment_of turn.0) (segment_of turn.1)) airport.forbidden }

-- ---- the order

-- what is given for each number below one, in order
abbrev pub below : ℕ → (ℕ → List Advice) → List Advice
below zero each = []
below (suc n) each = below n each ++ each n

abbrev pub class_advice : ℕ → List Advice
class_advice n = ClassNoSeconds (record { 0 = n }) ∷ ClassNoArrival (record { 0 = n }) ∷ ClassNoDeparture (record { 0 = n }) ∷ []

abbrev pub segment_advice : ℕ → List Advice
segment_advice n = SegmentNoSeconds (record { 0 = n }) ∷ []

abbrev pub node_advice : ℕ → List Advice
node_advice n = NodeNoArrival (record { 0 = n }) ∷ NodeNoDeparture (record { 0 = n }) ∷ NodeUnused (record { 0 = n }) ∷ []

abbrev pub arc_advice : ℕ → List Advice
arc_advice n = DeadEnd (record { 0 = n }) ∷ []

-- of a forbidden turn
abbrev pub turn_advice : Arc × Arc → List Advice
turn_advice turn = IdleTurn turn.0 turn.1 ∷ []

-- of a set, also beside the first that has the same members
abbrev pub set_advice : List (List Segment) → ℕ → List Advice
set_advice sets n = SameSet n (first_like sets n) ∷ NeedlessSet n ∷ []

-- all that may be told of an airport, in order
abbrev pub all_advice : Airport → List Advice
all_advice airport =
    below (length airport.classes) class_advice ++ (below (length airport.segments) segment_advice ++ (below (length airport.nodes) node_advice
    ++ (below (length airport.segments + length airport.segments) arc_advice ++ (flat_map turn_advice airport.forbidden
    ++ below (length airport.conflicts) (set_advice airport.conflicts)))))

-- of all that may be told, exactly what is so is told, in the same order
abbrev pub AreTold : Airport → List Advice → List Advice → Type 0
AreTold airport [] told = told ≡ []
AreTold airport (advice ∷ rest) told =
    (IsSo airport advice × (after : List Advice) × (told ≡ advice ∷ after) × AreTold airport rest after)
    ⊎ ((IsSo airport advice → ⊥) × AreTold airport rest told)

-- what is told after what was told before
abbrev pub Tells : Airport → List Advice → List Advice → List Advice → Type 0
Tells airport all old new = (told : List Advice) × AreTold airport all told × (new ≡ old ++ told)
