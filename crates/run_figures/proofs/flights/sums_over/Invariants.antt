use Rattle.std.proofs.Common.{◌≡◌, take}
use Rattle.std.specs.Prelude.{filter}
use Rattle.run_figures.specs.Flights.{is_of, sums_of, AreSmall}
use Rattle.run_figures.proofs.flights.sums_over.Given as goal

abbrev pub invariant-loop-place : goal.invariant-loop-place
invariant-loop-place l = record {
  same : l.sums ≡ sums_of l.airport (filter (is_of l.kind l.class) (take l.place l.ledger.state.flights));
  small : AreSmall l.place l.sums;
}
