use Rattle.place_cells.proofs.TurnLaws.{next_arcs-are}
use Rattle.place_cells.proofs.ground.SearchGround.next.Goals as goal

pub returns : goal.returns
returns c = next_arcs-are c.args.self.now.graph.now c.args.arc c.next.result.now c.next.ensures
