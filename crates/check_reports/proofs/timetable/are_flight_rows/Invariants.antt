use Rattle.std.proofs.Common.{◌≡◌, length, map, take}
use Rattle.taxi_base.specs.Reports.{flight_row}
use Rattle.checked_state.specs.Flights.{flights_of}
use Rattle.check_reports.proofs.timetable.are_flight_rows.Given as goal

abbrev pub invariant-loop-at : goal.invariant-loop-at
invariant-loop-at l = record {
  count : length l.rows ≡ length (flights_of l.flights);
  so_far : take l.at l.rows ≡ map flight_row (take l.at (flights_of l.flights));
}
