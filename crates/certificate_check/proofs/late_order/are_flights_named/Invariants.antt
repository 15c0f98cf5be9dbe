use Rattle.std.proofs.Common.{All, take, map}
use Rattle.checked_state.specs.Flights.{flights_of}
use Rattle.certificate_check.specs.Late.{delay_in}
use Rattle.certificate_check.proofs.LateOrder.{IsFlightNamed}
use Rattle.certificate_check.proofs.late_order.are_flights_named.Given as goal

abbrev pub invariant-loop-at : goal.invariant-loop-at
invariant-loop-at l = All (IsFlightNamed l.airport (delay_in l.late) (map (λ told. told.0) l.entries)) (take l.at (flights_of l.flights))
