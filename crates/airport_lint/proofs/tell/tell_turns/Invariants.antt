use Rattle.std.proofs.Common.{take}
use Rattle.std.specs.Prelude.{flat_map}
use Rattle.airport_lint.specs.Advice.{turn_advice, Tells}
use Rattle.airport_lint.proofs.tell.tell_turns.Given as goal

abbrev pub invariant-loop-turn : goal.invariant-loop-turn
invariant-loop-turn l = Tells l.airport (flat_map turn_advice (take l.turn-index l.turns)) l.initial.told.items l.told.items
