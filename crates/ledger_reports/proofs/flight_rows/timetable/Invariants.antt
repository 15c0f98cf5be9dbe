use Rattle.std.proofs.Common.{◌≡◌, map, take}
use Rattle.taxi_base.specs.Reports.{flight_row}
use Rattle.ledger_reports.proofs.flight_rows.timetable.Given as goal

abbrev pub invariant-loop-place : goal.invariant-loop-place
invariant-loop-place l = l.rows ≡ map flight_row (take l.place l.ledger.state.flights)
