use Rattle.sequence_exchange.proofs.CostLaws.{IsCounting}
use Rattle.sequence_exchange.proofs.costs.total_cost.Given as goal

abbrev pub invariant-loop-place : goal.invariant-loop-place
invariant-loop-place l = IsCounting l.wishes l.entries l.place l.total
