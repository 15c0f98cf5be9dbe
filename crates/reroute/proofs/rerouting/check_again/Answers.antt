use Rattle.std.proofs.Common.{◌≤◌, length, sym, arith}
use Rattle.reroute.proofs.FlightsFound.{found-one}
use Rattle.reroute.proofs.rerouting.check_again.Goals as goal

pub flight_refusal-requires : goal.flight_refusal-requires
flight_refusal-requires c =
    omega (
      arith,
      found-one (λ flight. 1 ≤ length flight.steps) c.args.name.now c.args.ledger.now.state.flights c.in-Some.flight.now c.count-flights.ensures.book.routed
          (sym (rw c.in-Some.is at c.flight.ensures)),
    )
