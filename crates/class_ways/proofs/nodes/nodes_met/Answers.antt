use Rattle.class_ways.specs.Ways.{AreMet}
use Rattle.class_ways.specs.Courses.{AreMarksOf}
use Rattle.class_ways.proofs.NodeLaws.{marks-met, if_ok-then}
use Rattle.class_ways.proofs.nodes.nodes_met.Goals as goal

pub returns : goal.returns
returns c =
    let airport = c.args.airport.now in
    let found = c.in_ok-found.found.arcs in
    if_ok-then c.node_marks.result (λ marks. AreMarksOf c.args.course airport found marks.items) (λ marks. AreMet c.args.course c.args.kind airport c.args.class marks.items) c.node_marks.ensures
    (λ marks are. marks-met c.args.course c.args.kind airport c.args.class found marks.items c.in_ok-found.ensures are)
