use Rattle.std.proofs.Common.{map, sym, subst, arith}
use Rattle.check_rows.proofs.LoopLaws.{all-fails, all-more, all-holds, says-no, says-yes}
use Rattle.checked_state.specs.Flights.{flights_of}
use Rattle.certificate_check.specs.Late.{delay_in}
use Rattle.certificate_check.proofs.LateOrder.{IsFlightNamed}
use Rattle.certificate_check.proofs.late_order.are_flights_named.Goals as goal

pub returns-then-not-is_flight_named : goal.returns-then-not-is_flight_named
returns-then-not-is_flight_named c =
    let IsNamed = IsFlightNamed c.args.airport.now (delay_in c.args.late.now) (map (λ told. told.0) c.args.entries.now) in
    all-fails IsNamed (flights_of c.args.flights.now) c.loop-at.at c.at-flight.result.now (omega (arith, c.len-at-end.ensures.count))
    (λ named. says-no _ c.if-not-is_flight_named.true c.is_flight_named.ensures (subst IsNamed (sym c.at-flight.ensures) named))

pub loop-at-preserved : goal.loop-at-preserved
loop-at-preserved c =
    let IsNamed = IsFlightNamed c.args.airport.now (delay_in c.args.late.now) (map (λ told. told.0) c.args.entries.now) in
    all-more IsNamed (flights_of c.args.flights.now) c.loop-at.at c.at-flight.result.now (omega (arith, c.len-at-end.ensures.count))
    c.loop-at.invariant (subst IsNamed c.at-flight.ensures (says-yes _ c.if-not-is_flight_named.false c.is_flight_named.ensures))

pub returns : goal.returns
returns c =
    all-holds (IsFlightNamed c.args.airport.now (delay_in c.args.late.now) (map (λ told. told.0) c.args.entries.now)) (flights_of c.args.flights.now) c.loop-at.at
    (omega (arith, c.len-at-end.ensures.count)) c.loop-at.invariant
