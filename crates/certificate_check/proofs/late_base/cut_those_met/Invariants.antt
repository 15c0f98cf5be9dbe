use Rattle.std.proofs.Common.{◌≡◌, ◌++◌, take, drop}
use Rattle.std.specs.Prelude.{flat_map}
use Rattle.taxi_base.specs.Late.{flight_at_once}
use Rattle.checked_state.specs.Flights.{flights_of, state_of}
use Rattle.certificate_check.specs.Desk.{IsTidy}
use Rattle.certificate_check.specs.Late.{delay_in}
use Rattle.certificate_check.proofs.late_base.cut_those_met.Given as goal

abbrev pub invariant-loop-at : goal.invariant-loop-at
invariant-loop-at l = record {
  so_far : state_of l.held
      ≡ record { flights = flat_map (flight_at_once l.airport (delay_in l.late)) (take l.at (flights_of l.flights)) ++ drop l.at (flights_of l.flights); parties = (state_of l.initial.held).parties };
  tidy : IsTidy l.airport l.held l.known;
}
