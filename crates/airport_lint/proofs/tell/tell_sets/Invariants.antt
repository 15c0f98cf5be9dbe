use Rattle.airport_lint.specs.Advice.{below, set_advice, Tells}
use Rattle.airport_lint.proofs.tell.tell_sets.Given as goal

abbrev pub invariant-loop-at : goal.invariant-loop-at
invariant-loop-at l = Tells l.airport (below l.at (set_advice l.airport.conflicts)) l.initial.told.items l.told.items
