use Rattle.std.proofs.Common.{◌≤◌, length, sym, arith}
use Rattle.std.proofs.lemmas.List.Elements.{All-contains}
use Rattle.replies.proofs.FlightLaws.{flight_named-there}
use Rattle.command_refusals.proofs.late.asked_late.Goals as goal

pub delay_refused-requires : goal.delay_refused-requires
delay_refused-requires c =
    let flights = c.args.ledger.now.state.flights in
    let f = c.in-Some.flight.now in
    let found = sym (rw c.in-Some.is at c.flight.ensures) in
    omega (
      arith,
      All-contains (λ x. 1 ≤ length x.steps) flights f c.count-flights.ensures.book.routed (flight_named-there c.args.name.now flights f found),
    )
