use Rattle.std.proofs.Common.{◌≡◌, [], Some, arith}
use Rattle.taxi_base.proofs.InOrder.{AreAll-none}
use Rattle.taxi_base.specs.declared.numbers.Arc.{Arc}
use Rattle.taxi_base.specs.Airport.{head}
use Rattle.place_cells.proofs.TurnLaws.{entering_arcs-are}
use Rattle.place_cells.proofs.ground.SearchGround.entering.Goals as goal

pub returns-then-node-nodes : goal.returns-then-node-nodes
returns-then-node-nodes c = entering_arcs-are c.args.self.now.graph.now c.args.node c.entering.result.now c.entering.ensures

pub returns-else-node-nodes : goal.returns-else-node-nodes
returns-else-node-nodes c =
    let layout = c.args.self.now.graph.now in
    entering_arcs-are layout c.args.node []
    (AreAll-none (λ (a : Arc). a.0) (λ a. head layout a ≡ Some c.args.node) (λ a e. omega (arith, c.requires a c.args.node e, c.if-node-nodes.false, c.nodes.ensures.count)))
