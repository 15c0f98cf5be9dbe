use Rattle.std.proofs.Common.{◌≡◌, ◌<◌, ◌↔◌, false, length, get_or, IsTrue, Some}
use Rattle.taxi_base.specs.declared.numbers.Node.{Node}
use Rattle.taxi_base.specs.declared.numbers.Arc.{Arc}
use Rattle.taxi_base.specs.Airport.{layout_of}
use Rattle.class_ways.specs.Courses.{far}
use Rattle.class_ways.specs.Found.{has_arc}
use Rattle.class_ways.proofs.nodes.node_marks.Given as goal

-- a mark for each node so far: whether the course comes to it on an arc that was found
abbrev pub invariant-loop-number : goal.invariant-loop-number
invariant-loop-number l =
    (length l.marks.items ≡ l.number)
    × ((node : Node) → node.0 < l.number
    → IsTrue (get_or l.marks.items node.0 false) ↔ ((arc : Arc) × (far l.course (layout_of l.airport) arc ≡ Some node) × IsTrue (has_arc l.found.arcs arc)))
