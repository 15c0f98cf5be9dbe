use Rattle.std.proofs.Common.{All, take, length}
use Rattle.taxi_base.specs.Walks.{conditions_among, free_among, IsFeasibleStep}
use Rattle.check_rows.specs.Known.{AreKnown}
use Rattle.check_walks.proofs.feasible.all_feasible.Given as goal

abbrev pub invariant-loop-step : goal.invariant-loop-step
invariant-loop-step g l = record {
  known : AreKnown (length l.airport.segments) (free_among l.airport (g.H.HoldsOf.held l.holds)) l.known;
  each : All (IsFeasibleStep (conditions_among l.airport l.class (g.H.HoldsOf.held l.holds))) (take l.step-index l.steps);
}
