use Rattle.airport_lint.specs.Advice.{below, segment_advice, Tells}
use Rattle.airport_lint.proofs.tell.tell_segments.Given as goal

abbrev pub invariant-loop-number : goal.invariant-loop-number
invariant-loop-number l = Tells l.airport (below l.number segment_advice) l.initial.told.items l.told.items
