use Rattle.std.proofs.Common.{◌≡◌, map}
use Rattle.airport_rules.specs.Indexed.{arcs_of_pair}
use Rattle.airport_rules.proofs.plan.Plan.forbidden.Given as goal

abbrev pub invariant-loop-turn : goal.invariant-loop-turn
invariant-loop-turn l = l.turns.items ≡ map arcs_of_pair (map (λ k. k.now) l.yielded)
