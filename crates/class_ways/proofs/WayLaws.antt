-- Courses are ways: onward as they go, and back the other way round.
use Rattle.std.proofs.Common.{◌≡◌, ◌<◌, ◌+◌, ◌/◌, ℕ, zero, suc, Bool, false, List, [], ◌∷◌, length, get_or, Option, Some, None, IsTrue, inl, inr, refl, sym, ◌∙◌, arith}
use Rattle.std.specs.Prelude.{is_some}
use Rattle.std.specs.List.{list_any}
use Rattle.std.specs.Option.{option_map_or}
use Rattle.std.proofs.lemmas.Bool.{and_parts, cases_lt, or_left, or_right}
use Rattle.std.proofs.lemmas.List.{length-map, get_or_past}
use Rattle.std.proofs.lemmas.Option.{slice_get_cases}
use Rattle.taxi_base.specs.declared.numbers.Node.{Node}
use Rattle.taxi_base.specs.declared.numbers.Arc.{Arc}
use Rattle.taxi_base.specs.declared.numbers.Class.{Class}
use Rattle.taxi_base.specs.declared.rows.Kind.{Kind}
use Rattle.taxi_base.specs.declared.rows.Kind.TheVariants.{Runway, Junction, Stand}
use Rattle.taxi_base.specs.Airport.{Airport, layout_of, segment_of, arc_exists, tail, head, seconds, seconds_in, times_of, is_runway, is_stand, is_of_kind}
use Rattle.taxi_base.proofs.AirportLaws.{arc_exists-segment, permits-exist}
use Rattle.class_ways.specs.declared.course.Course.{Course}
use Rattle.class_ways.specs.declared.course.Course.TheVariants.{Onward, Back}
use Rattle.class_ways.specs.Ways.{is_junction, is_of, is_open, IsWay, begin_of, end_of, Comes}
use Rattle.class_ways.specs.Courses.{near, far, turns, is_start, IsComing, IsMet}

pub open-exists : (airport : Airport) (class : Class) (arc : Arc) → IsTrue (is_open airport class arc) → IsTrue (arc_exists (layout_of airport) arc)
unfolding is_open
open-exists airport class arc h = (and_parts (arc_exists (layout_of airport) arc) (is_some (seconds airport class (segment_of arc))) h).0

pub open-low : (airport : Airport) (class : Class) (arc : Arc) → IsTrue (is_open airport class arc) → arc.0 < length airport.segments + length airport.segments
open-low airport class arc h =
    let low : arc.0 / 2 < length airport.segments = arc_exists-segment airport arc (open-exists airport class arc h) in omega arith

-- an arc that may follow another exists
pub turn-exists : (course : Course) (airport : Airport) (x y : Arc) → IsTrue (turns course (layout_of airport) x y) → IsTrue (arc_exists (layout_of airport) y)
turn-exists Onward airport x y h = (permits-exist (layout_of airport) x y h).1
turn-exists Back airport x y h = (permits-exist (layout_of airport) y x h).0

some_of : (f : Node → Bool) (o : Option Node) → IsTrue (option_map_or f o false) → (node : Node) × (o ≡ Some node) × IsTrue (f node)
some_of f (Some node) h = (node, refl, h)
some_of f None h = absurd (cc h)

-- what a course begins with: an open arc, at a node of the kind
pub start-parts : (course : Course) (kind : Kind) (airport : Airport) (class : Class) (arc : Arc) → IsTrue (is_start course kind airport class arc)
    → IsTrue (is_open airport class arc) × (node : Node) × (near course (layout_of airport) arc ≡ Some node) × IsTrue (is_of kind airport node)
start-parts course kind airport class arc h =
    let parts = and_parts (is_open airport class arc) (option_map_or (is_of kind airport) (near course (layout_of airport) arc) false) h in
    let at = some_of (is_of kind airport) (near course (layout_of airport) arc) parts.1 in (parts.0, at.0, at.1, at.2)

pub start-from : (course : Course) (kind : Kind) (airport : Airport) (class : Class) (arc : Arc) (node : Node) → IsTrue (is_open airport class arc)
    → near course (layout_of airport) arc ≡ Some node → IsTrue (is_of kind airport node) → IsTrue (is_start course kind airport class arc)
start-from course kind airport class arc node goes at is = rw (goes, at) is

module _ (kind : Kind) (airport : Airport) (class : Class) where
  pub coming-open : (course : Course) (x : Arc) (before : List Arc) → IsComing course airport class (is_start course kind airport class) x before → IsTrue (is_open airport class x)
  coming-open course x [] start = (start-parts course kind airport class x start).0
  coming-open course x (y ∷ before) coming = coming.0.1

  way-open : (x : Arc) (way : List Arc) → IsWay airport class (x ∷ way) → IsTrue (is_open airport class x)
  way-open x [] goes = goes
  way-open x (y ∷ way) goes = goes.0

  -- ---- onward

  onward-way : (x : Arc) (before after : List Arc) → IsComing Onward airport class (is_start Onward kind airport class) x before → IsWay airport class (x ∷ after)
      → (way : List Arc) × IsWay airport class way × (node : Node) × (begin_of (layout_of airport) way ≡ Some node) × IsTrue (is_of kind airport node)
      × (end_of (layout_of airport) way ≡ end_of (layout_of airport) (x ∷ after))
  onward-way x [] after start goes =
      let parts = start-parts Onward kind airport class x start in (x ∷ after, goes, parts.1, parts.2, parts.3, refl)
  onward-way x (y ∷ before) after coming goes =
      onward-way y before (x ∷ after) coming.1 (coming-open Onward y before coming.1, coming.0.0, goes)

  way-onward : (x : Arc) (after before : List Arc) → IsWay airport class (x ∷ after) → IsComing Onward airport class (is_start Onward kind airport class) x before
      → (last : Arc) × (end_of (layout_of airport) (x ∷ after) ≡ head (layout_of airport) last) × IsMet Onward airport class (is_start Onward kind airport class) last
  way-onward x [] before goes coming = (x, refl, (before, coming))
  way-onward x (y ∷ after) before goes coming = way-onward y after (x ∷ before) goes.2 ((goes.1, way-open y after goes.2), coming)

  -- ---- back

  back-way : (x : Arc) (before : List Arc) → IsComing Back airport class (is_start Back kind airport class) x before
      → IsWay airport class (x ∷ before) × (node : Node) × (end_of (layout_of airport) (x ∷ before) ≡ Some node) × IsTrue (is_of kind airport node)
  back-way x [] start = start-parts Back kind airport class x start
  back-way x (y ∷ before) coming =
      let rest = back-way y before coming.1 in ((coming.0.1, coming.0.0, rest.0), rest.1, rest.2, rest.3)

  way-back : (x : Arc) (after : List Arc) (node : Node) → IsWay airport class (x ∷ after) → end_of (layout_of airport) (x ∷ after) ≡ Some node → IsTrue (is_of kind airport node)
      → IsComing Back airport class (is_start Back kind airport class) x after
  way-back x [] node goes ends is = start-from Back kind airport class x node goes ends is
  way-back x (y ∷ after) node goes ends is = ((goes.1, goes.0), way-back y after node goes.2 ends is)

  -- ---- both

  pub met-comes : (course : Course) (node : Node) (arc : Arc) → far course (layout_of airport) arc ≡ Some node → IsMet course airport class (is_start course kind airport class) arc → Comes course kind airport class node
  met-comes Onward node arc ends (before, coming) =
      let found = onward-way arc before [] coming (coming-open Onward arc before coming) in
      (found.2, found.4, record { arcs = found.0; way = found.1; begins = found.3; ends = found.5 ∙ ends })
  met-comes Back node arc begins (before, coming) =
      let found = back-way arc before coming in (found.1, found.3, record { arcs = arc ∷ before; way = found.0; begins = begins; ends = found.2 })

  pub comes-met : (course : Course) (node : Node) → Comes course kind airport class node → (arc : Arc) × (far course (layout_of airport) arc ≡ Some node) × IsMet course airport class (is_start course kind airport class) arc
  comes-met Onward node (other, is, leads) = onward leads.arcs leads.way leads.begins leads.ends
    where
      onward : (arcs : List Arc) → IsWay airport class arcs → begin_of (layout_of airport) arcs ≡ Some other → end_of (layout_of airport) arcs ≡ Some node
          → (arc : Arc) × (head (layout_of airport) arc ≡ Some node) × IsMet Onward airport class (is_start Onward kind airport class) arc
      onward [] goes begins ends = absurd goes
      onward (x ∷ after) goes begins ends =
          let found = way-onward x after [] goes (start-from Onward kind airport class x other (way-open x after goes) begins is) in
          (found.0, sym found.1 ∙ ends, found.2)
  comes-met Back node (other, is, leads) = back leads.arcs leads.way leads.begins leads.ends
    where
      back : (arcs : List Arc) → IsWay airport class arcs → begin_of (layout_of airport) arcs ≡ Some node → end_of (layout_of airport) arcs ≡ Some other
          → (arc : Arc) × (tail (layout_of airport) arc ≡ Some node) × IsMet Back airport class (is_start Back kind airport class) arc
      back [] goes begins ends = absurd goes
      back (x ∷ after) goes begins ends = (x, begins, (after, way-back x after other goes ends is))

-- ---- what there is

pub open-class : (airport : Airport) (class : Class) (arc : Arc) → IsTrue (is_open airport class arc) → class.0 < length airport.classes
unfolding is_open seconds_in
open-class airport class arc h =
    let parts = and_parts (arc_exists (layout_of airport) arc) (is_some (seconds airport class (segment_of arc))) h in
    elim (cases_lt class.0 (length airport.classes)) [
      | inl low ↦ low
      | inr past ↦
          let none : get_or (times_of airport) class.0 [] ≡ [] = get_or_past (times_of airport) class.0 [] (omega (arith, past, length-map airport.classes (λ row. row.seconds))) in
          absurd (let no = rw none at parts.1 in cc no)
    ]

some_in : (row : List (Option ℕ)) (k : ℕ) → IsTrue (is_some (get_or row k None)) → IsTrue (list_any is_some row)
some_in [] k h = absurd (cc h)
some_in (x ∷ row) zero h = or_left (is_some x) (list_any is_some row) h
some_in (x ∷ row) (suc k) h = or_right (is_some x) (list_any is_some row) (some_in row k h)

-- a class to which an arc is open has seconds somewhere
pub open-seconds : (airport : Airport) (class : Class) (arc : Arc) → IsTrue (is_open airport class arc) → IsTrue (list_any is_some (get_or (times_of airport) class.0 []))
unfolding is_open seconds_in
open-seconds airport class arc h =
    let parts = and_parts (arc_exists (layout_of airport) arc) (is_some (seconds airport class (segment_of arc))) h in
    some_in (get_or (times_of airport) class.0 []) (segment_of arc).0 parts.1

way-class : (airport : Airport) (class : Class) (way : List Arc) → IsWay airport class way → class.0 < length airport.classes
way-class airport class [] goes = absurd goes
way-class airport class (x ∷ []) goes = open-class airport class x goes
way-class airport class (x ∷ y ∷ way) goes = open-class airport class x goes.0

-- a class that comes to a node
pub comes-class : (course : Course) (kind : Kind) (airport : Airport) (class : Class) (node : Node) → Comes course kind airport class node → class.0 < length airport.classes
comes-class Onward kind airport class node (other, is, leads) = way-class airport class leads.arcs leads.way
comes-class Back kind airport class node (other, is, leads) = way-class airport class leads.arcs leads.way

kind-node : (is_kind : Kind → Bool) (airport : Airport) (node : Node) → IsTrue (is_of_kind is_kind airport node) → node.0 < length airport.nodes
kind-node is_kind airport node h = elim (slice_get_cases airport.nodes node.0).1 [
  | inl there ↦ there.1
  | inr past ↦ absurd (let no = rw past.1 at h in cc no)
]

-- a node of a kind
pub is_of-node : (kind : Kind) (airport : Airport) (node : Node) → IsTrue (is_of kind airport node) → node.0 < length airport.nodes
is_of-node Runway airport node h = kind-node is_runway airport node h
is_of-node Junction airport node h = kind-node is_junction airport node h
is_of-node Stand airport node h = kind-node is_stand airport node h
