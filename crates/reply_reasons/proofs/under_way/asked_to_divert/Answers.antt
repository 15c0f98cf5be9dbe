use Rattle.std.proofs.Common.{◌≤◌, length, sym, arith}
use Rattle.std.proofs.lemmas.List.Elements.{All-contains}
use Rattle.taxi_base.proofs.AirportLaws.{node_named-exists}
use Rattle.replies.proofs.FlightLaws.{flight_named-there}
use Rattle.reply_reasons.proofs.under_way.asked_to_divert.Goals as goal

pub is_stand-requires : goal.is_stand-requires
is_stand-requires c = node_named-exists c.args.airport.now c.args.node.now c.in_ok-to.to (sym c.in_ok-to.ensures)

pub divert_refusal-requires : goal.divert_refusal-requires
divert_refusal-requires c =
    let flights = c.args.ledger.now.state.flights in
    let f = c.in_ok-flight.flight.now in
    omega (arith, All-contains (λ x. 1 ≤ length x.steps) flights f c.count-flights.ensures.book.routed (flight_named-there c.args.name.now flights f (sym c.in_ok-flight.ensures)))
