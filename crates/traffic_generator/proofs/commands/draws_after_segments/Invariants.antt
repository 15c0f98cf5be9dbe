use Rattle.std.proofs.Common.{◌≡◌}
use Rattle.traffic_generator.specs.Draws.{state_after}
use Rattle.traffic_generator.proofs.commands.draws_after_segments.Given as goal

abbrev pub invariant-loop : goal.invariant-loop
invariant-loop l = l.draws.state ≡ state_after l.number l.counter
