use Rattle.class_ways.specs.Found.{has_arc}
use Rattle.class_ways.proofs.SpreadLaws.{IsSpread}
use Rattle.class_ways.proofs.met.spread.Given as goal

abbrev pub invariant-loop-at : goal.invariant-loop-at
invariant-loop-at l = IsSpread l.course l.airport l.class (has_arc l.initial.found.arcs) l.at l.found
