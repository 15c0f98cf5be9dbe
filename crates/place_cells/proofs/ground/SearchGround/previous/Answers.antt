use Rattle.place_cells.proofs.TurnLaws.{previous_arcs-are}
use Rattle.place_cells.proofs.ground.SearchGround.previous.Goals as goal

pub returns : goal.returns
returns c = previous_arcs-are c.args.self.now.graph.now c.args.arc c.previous.result.now c.previous.ensures
