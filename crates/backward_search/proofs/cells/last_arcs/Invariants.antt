use Rattle.std.proofs.Common.{◌≡◌, take}
use Rattle.backward_search.specs.Departures.{last_arcs}
use Rattle.backward_search.proofs.cells.last_arcs.Given as goal

abbrev pub invariant-loop-node : goal.invariant-loop-node
invariant-loop-node l = l.arcs.items ≡ last_arcs l.ground.graph.now (take l.node-index l.to)
