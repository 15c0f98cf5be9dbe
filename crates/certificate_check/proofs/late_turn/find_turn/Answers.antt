use Rattle.std.proofs.Common.{◌≡◌, ◌∙◌, sym, ap}
use Rattle.checked_state.specs.Flights.{state_of}
use Rattle.checked_state.proofs.FlightLaws.{copied-flight}
use Rattle.certificate_check.specs.Late.{delay_in, turn_in}
use Rattle.certificate_check.proofs.AgainLaws.{one-flight}
use Rattle.certificate_check.proofs.LateSteps.{on-steps}
use Rattle.certificate_check.proofs.late_turn.find_turn.Goals as goal

pub steps_kept-requires : goal.steps_kept-requires
steps_kept-requires c =
    let found = sym c.flight.ensures ∙ copied-flight c.flight.result c.unwrap-flight.result c.unwrap-flight.ensures in
    record { steps = on-steps c.args.airport.now (state_of c.args.before.now) c.requires.sound c.args.name.now c.unwrap-flight.result.now found }

pub returns : goal.returns
returns c flight there =
    let airport = c.args.airport.now in
    let delay = delay_in c.args.late.now in
    let f = c.unwrap-flight.result.now in
    let found = sym c.flight.ensures ∙ copied-flight c.flight.result c.unwrap-flight.result c.unwrap-flight.ensures in
    let is : f ≡ flight = one-flight c.args.name.now (state_of c.args.before.now).flights f flight found there in
    (λ i. record { name = f.name; class = f.class; request = f.request; kept = c.in_ok-kept.ensures i; from_on = c.time_sought.ensures i }) ∙ ap (turn_in airport delay) is
