-- The marks of nodes, one after the other.
use Rattle.std.proofs.Common.{◌≡◌, ◌↔◌, ℕ, ◌+◌, ◌<◌, Bool, false, List, [], ◌∷◌, ◌++◌, length, get_or, Some, IsTrue, Result, Ok, Err, IfOk, inl, inr, sym, ◌∙◌, subst, arith}
use Rattle.std.specs.List.{list_any}
use Rattle.std.proofs.lemmas.Bool.{cases_lt}
use Rattle.std.proofs.lemmas.List.{get_or_append_left, get_or_push, length_push}
use Rattle.taxi_base.specs.declared.numbers.Node.{Node}
use Rattle.taxi_base.specs.declared.numbers.Arc.{Arc}
use Rattle.taxi_base.specs.declared.numbers.Class.{Class}
use Rattle.taxi_base.specs.declared.rows.Kind.{Kind}
use Rattle.taxi_base.specs.Airport.{Airport, layout_of}
use Rattle.taxi_base.proofs.ListLaws.{list_any-true, list_any-member}
use Rattle.segment_graph.specs.Graphs.{AreArcs}
use Rattle.class_ways.specs.declared.course.Course.{Course}
use Rattle.class_ways.specs.Ways.{AreMet}
use Rattle.class_ways.specs.Courses.{far, is_start, IsMet, AreMarksOf}
use Rattle.class_ways.specs.Found.{has_arc}
use Rattle.class_ways.proofs.WayLaws.{met-comes, comes-met}

-- one node more
pub marks-more : (Has : Node → Type 0) (marks : List Bool) (number : ℕ) (here : Bool) → length marks ≡ number
    → ((node : Node) → node.0 < number → IsTrue (get_or marks node.0 false) ↔ Has node) → IsTrue here ↔ Has (record { 0 = number })
    → (length (marks ++ here ∷ []) ≡ number + 1) × ((node : Node) → node.0 < number + 1 → IsTrue (get_or (marks ++ here ∷ []) node.0 false) ↔ Has node)
marks-more Has marks number here count so_far next = (
  length_push marks here ∙ omega (arith, count),
  λ node low. elim (cases_lt node.0 number) [
    | inl before ↦
        let within : node.0 < length marks = omega (arith, before, count) in
        rw (get_or_append_left marks (here ∷ []) false node.0 within) (so_far node before)
    | inr past ↦
        let at : length marks ≡ node.0 = omega (arith, low, past, count) in
        let same : number ≡ node.0 = omega (arith, low, past) in
        rw (get_or_push marks here false node.0 at) (subst (λ n. IsTrue here ↔ Has (record { 0 = n })) same next)
  ],
)

-- whether one of the arcs that come to a node was found
pub any-coming : (course : Course) (airport : Airport) (found arcs : List Arc) (node : Node) (here : Bool) → AreArcs (λ arc. far course (layout_of airport) arc ≡ Some node) arcs
    → here ≡ list_any (has_arc found) arcs → IsTrue here ↔ ((arc : Arc) × (far course (layout_of airport) arc ≡ Some node) × IsTrue (has_arc found arc))
any-coming course airport found arcs node here all is = (
  λ some. let one = list_any-true (has_arc found) arcs (sym is ∙ some) in (one.0, (all.each one.0).0 one.1, one.2),
  λ one. is ∙ list_any-member (has_arc found) arcs one.0 ((all.each one.0).1 one.1) one.2,
)

-- the nodes to which the course comes on what it meets
pub marks-met : (course : Course) (kind : Kind) (airport : Airport) (class : Class) (found : List Arc) (marks : List Bool)
    → ((arc : Arc) → IsTrue (has_arc found arc) ↔ IsMet course airport class (is_start course kind airport class) arc) → AreMarksOf course airport found marks
    → AreMet course kind airport class marks
marks-met course kind airport class found marks met are = record {
  count = are.count;
  each = λ node low. (
    λ mark. let one = (are.each node low).0 mark in met-comes kind airport class course node one.0 one.1 ((met one.0).0 one.2),
    λ comes. let one = comes-met kind airport class course node comes in (are.each node low).1 (one.0, one.1, (met one.0).1 one.2),
  );
}

pub if_ok-then : {T E : Type 0} (result : Result T E) (P Q : T → Type 0) → IfOk result P → ((t : T) → P t → Q t) → IfOk result Q
if_ok-then (Ok t) P Q h to = to t h
if_ok-then (Err e) P Q h to = h
