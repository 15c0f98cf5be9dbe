use Rattle.airport_lint.specs.Advice.{below, class_advice, Tells}
use Rattle.airport_lint.proofs.tell.tell_classes.Given as goal

abbrev pub invariant-loop-number : goal.invariant-loop-number
invariant-loop-number l = Tells l.airport (below l.number class_advice) l.initial.told.items l.told.items
