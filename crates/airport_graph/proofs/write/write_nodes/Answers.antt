use Rattle.std.proofs.Common.{◌<◌, length, arith, ap}
use Rattle.airport_graph.specs.Graph.{node_line}
use Rattle.airport_graph.proofs.Lines.{node-more}
use Rattle.airport_graph.proofs.write.write_nodes.Goals as goal

pub loop-number-preserved : goal.loop-number-preserved
loop-number-preserved c =
    let low : c.loop-number.number < length c.args.airport.now.nodes = omega (arith, ap (λ g. g.nodes) c.graph.ensures) in
    node-more node_line c.args.airport.now.nodes c.loop-number.number _ _ _ low c.loop-number.invariant c.in_ok-write_node.ensures
