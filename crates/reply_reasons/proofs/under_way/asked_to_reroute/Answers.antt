use Rattle.std.proofs.Common.{◌≤◌, length, ◌∙◌, sym, arith}
use Rattle.std.proofs.lemmas.List.Elements.{All-contains}
use Rattle.replies.proofs.FlightLaws.{flight_named-there}
use Rattle.reply_reasons.proofs.AgainLaws.{reroute-found}
use Rattle.reply_reasons.proofs.under_way.asked_to_reroute.Goals as goal

pub reroute_refusal-requires : goal.reroute_refusal-requires
reroute_refusal-requires c =
    let flights = c.args.ledger.now.state.flights in
    let f = c.in_ok-flight.flight.now in
    omega (arith, All-contains (λ x. 1 ≤ length x.steps) flights f c.count-flights.ensures.book.routed (flight_named-there c.args.name.now flights f (sym c.in_ok-flight.ensures)))

pub returns-clause-asked : goal.returns-clause-asked
returns-clause-asked c =
    reroute-found c.args.airport.now c.horizon-horizon.ensures.rules c.args.ledger.now.state c.requires.sound c.args.name.now c.args.time c.in_ok-flight.flight.now c.unwrap-flight.result
    c.in_ok-flight.ensures (sym c.cancel.ensures.flight ∙ c.unwrap-flight.ensures) c.reroute_refusal.result c.reroute_refusal.ensures c.if-is_some.ensures
    c.cancel.new.self.state (rw c.unwrap-flight.ensures at c.cancel.ensures.state) c.asking_on.result c.asking_on.ensures
