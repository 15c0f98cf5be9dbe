use Rattle.std.proofs.Common.{◌≡◌, take, length}
use Rattle.airport_file.proofs.build.lay_turns.Given as goal

abbrev pub invariant-loop-turn : goal.invariant-loop-turn
invariant-loop-turn l = l.builder ≡ record { nodes = length l.plan.nodes; links = l.plan.links; forbidden = take l.turn-index l.turn-items }
