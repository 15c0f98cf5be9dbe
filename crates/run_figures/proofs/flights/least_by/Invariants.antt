use Rattle.std.proofs.Common.{◌≡◌, take}
use Rattle.std.specs.Prelude.{sum_by}
use Rattle.plan_table.specs.Rows.{least_for}
use Rattle.run_figures.proofs.flights.least_by.Given as goal

abbrev pub invariant-loop-step : goal.invariant-loop-step
invariant-loop-step l = l.least ≡ sum_by (least_for l.airport l.flight) (take l.step-index l.flight.steps)
