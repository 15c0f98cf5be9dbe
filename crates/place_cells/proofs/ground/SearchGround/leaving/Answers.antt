use Rattle.std.proofs.Common.{◌≡◌, [], Some, arith}
use Rattle.taxi_base.proofs.InOrder.{AreAll-none}
use Rattle.taxi_base.specs.declared.numbers.Arc.{Arc}
use Rattle.taxi_base.specs.Airport.{tail}
use Rattle.place_cells.proofs.TurnLaws.{leaving_arcs-are}
use Rattle.place_cells.proofs.ground.SearchGround.leaving.Goals as goal

pub returns-then-node-nodes : goal.returns-then-node-nodes
returns-then-node-nodes c = leaving_arcs-are c.args.self.now.graph.now c.args.node c.leaving.result.now c.leaving.ensures

pub returns-else-node-nodes : goal.returns-else-node-nodes
returns-else-node-nodes c =
    let layout = c.args.self.now.graph.now in
    leaving_arcs-are layout c.args.node []
    (AreAll-none (λ (a : Arc). a.0) (λ a. tail layout a ≡ Some c.args.node) (λ a e. omega (arith, c.requires a c.args.node e, c.if-node-nodes.false, c.nodes.ensures.count)))
