use Rattle.std.proofs.Common.{◌∙◌, sym}
use Rattle.std.proofs.lemmas.List.Elements.{All-contains}
use Rattle.taxi_base.specs.Walks.{IsFeasibleWalk}
use Rattle.taxi_base.specs.State.{conditions_of}
use Rattle.replies.proofs.FlightLaws.{flight_named-there}
use Rattle.replies.proofs.FoundLaws.{walk-some}
use Rattle.checked_state.specs.Flights.{state_of}
use Rattle.checked_state.proofs.FlightLaws.{copied-flight}
use Rattle.due_refusals.proofs.late.late_refused.Goals as goal

pub delay_refused-requires : goal.delay_refused-requires
delay_refused-requires c =
    let airport = c.args.airport.now in
    let state = state_of c.args.held.now in
    let f = c.in-Some.flight.now in
    let found = sym c.flight.ensures ∙ copied-flight c.flight.result c.in-Some.flight c.in-Some.is in
    walk-some (conditions_of airport state f) f.steps
    (All-contains (λ x. IsFeasibleWalk (conditions_of airport state x) x.steps) state.flights f c.requires.sound.feasible.walks (flight_named-there c.args.name.now state.flights f found))

pub returns : goal.returns
returns c =
    let found = sym c.flight.ensures ∙ copied-flight c.flight.result c.in-Some.flight c.in-Some.is in
    rw found c.delay_refused.ensures
