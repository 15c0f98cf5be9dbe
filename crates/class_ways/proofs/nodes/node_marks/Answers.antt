use Rattle.std.proofs.Common.{◌≡◌, Some, IsTrue, subst}
use Rattle.taxi_base.specs.declared.numbers.Arc.{Arc}
use Rattle.taxi_base.specs.declared.numbers.Node.{Node}
use Rattle.taxi_base.specs.Airport.{layout_of}
use Rattle.segment_graph.specs.Graphs.{AreArcs}
use Rattle.class_ways.specs.Courses.{far}
use Rattle.class_ways.specs.Found.{has_arc}
use Rattle.class_ways.proofs.NodeLaws.{marks-more, any-coming}
use Rattle.class_ways.proofs.nodes.node_marks.Goals as goal

pub loop-number-preserved : goal.loop-number-preserved
loop-number-preserved c =
    let course = c.args.course in
    let airport = c.args.airport.now in
    let found = c.args.found.now.arcs in
    let node : Node = record { 0 = c.loop-number.number } in
    let next = any-coming course airport found c.coming_to-arcs.result.now node c.has_any.result (subst (λ layout. AreArcs (λ arc. far course layout arc ≡ Some node) c.coming_to-arcs.result.now) c.graph-in-loop-number.ensures c.coming_to-arcs.ensures) c.has_any.ensures in
    rw c.in_ok-push.ensures.items
    (marks-more (λ node. (arc : Arc) × (far course (layout_of airport) arc ≡ Some node) × IsTrue (has_arc found arc)) c.loop-number.marks.items c.loop-number.number c.has_any.result
    c.loop-number.invariant.0 c.loop-number.invariant.1 next)
