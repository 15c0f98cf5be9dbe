use Rattle.airport_lint.specs.Advice.{below, node_advice, Tells}
use Rattle.airport_lint.proofs.tell.tell_nodes.Given as goal

abbrev pub invariant-loop-number : goal.invariant-loop-number
invariant-loop-number l = Tells l.airport (below l.number node_advice) l.initial.told.items l.told.items
