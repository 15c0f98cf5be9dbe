use Rattle.std.proofs.Common.{List, ◌≡◌, ◌≤◌, ◌+◌, ◌∙◌, sym, ap, subst, arith}
use Rattle.taxi_base.specs.declared.rows.Step.{Step}
use Rattle.taxi_base.specs.declared.answers.Flight.{Flight}
use Rattle.taxi_base.specs.State.{without}
use Rattle.held_spans.specs.Spans.{steps_on, room_at}
use Rattle.checked_state.specs.Flights.{flights_of, state_of, named_in}
use Rattle.checked_state.proofs.PlaceLaws.{found-at, place-there}
use Rattle.checked_state.proofs.FlightLaws.{take-apart}
use Rattle.checked_state.proofs.flights.HeldFlights.lift.Goals as goal

pub unwrap-place-requires : goal.unwrap-place-requires
unwrap-place-requires c = place-there (λ (f : Flight). f.name) (flights_of c.args.self.now.flights) c.args.name.now c.args.self.now.flights.ordered c.place_of.result c.place_of.ensures c.requires.in_force

pub release-requires : goal.release-requires
release-requires c =
    let flights = flights_of c.args.self.now.flights in
    let name = c.args.name.now in
    let flight = c.at-flight.result.now in
    let found = found-at (λ (f : Flight). f.name) flights name c.args.self.now.flights.ordered c.place_of.result c.unwrap-place.result c.place_of.ensures c.unwrap-place.ensures flight c.at-flight.ensures in (
      named_in c.args.airport.now (without name (state_of c.args.self.now)),
      take-apart c.args.airport.now c.args.self.now.spans name (state_of c.args.self.now) flight c.args.self.now.flights.ordered c.requires.alone found c.horizon.result c.clearance-clearance.result c.as_slice-steps.result.now
          c.horizon.ensures.horizon c.clearance-clearance.ensures.clearance c.as_slice-steps.ensures c.requires.spans.holders,
    )

pub returns-clause-spans : goal.returns-clause-spans
returns-clause-spans c =
    let flights = flights_of c.args.self.now.flights in
    let name = c.args.name.now in
    let flight = c.at-flight.result.now in
    let found = found-at (λ (f : Flight). f.name) flights name c.args.self.now.flights.ordered c.place_of.result c.unwrap-place.result c.place_of.ensures c.unwrap-place.ensures flight c.at-flight.ensures in
    record {
      lists = c.release.ensures.count ∙ c.requires.spans.lists;
      holders = c.release.ensures.gone (named_in c.args.airport.now (without name (state_of c.args.self.now)))
          (take-apart c.args.airport.now c.args.self.now.spans name (state_of c.args.self.now) flight c.args.self.now.flights.ordered c.requires.alone found c.horizon.result c.clearance-clearance.result c.as_slice-steps.result.now
          c.horizon.ensures.horizon c.clearance-clearance.ensures.clearance c.as_slice-steps.ensures c.requires.spans.holders);
    }

pub returns-clause-room : goal.returns-clause-room
returns-clause-room c other known s =
    let flights = flights_of c.args.self.now.flights in
    let name = c.args.name.now in
    let flight = c.at-flight.result.now in
    let found = found-at (λ (f : Flight). f.name) flights name c.args.self.now.flights.ordered c.place_of.result c.unwrap-place.result c.place_of.ensures c.unwrap-place.ensures flight c.at-flight.ensures in
    let is : flight ≡ other = cc (sym found ∙ known) in
    let steps : c.as_slice-steps.result.now ≡ other.steps = c.as_slice-steps.ensures ∙ ap (λ (f : Flight). f.steps) is in
    let gains = subst (λ (steps : List Step). room_at c.args.self.now.spans s + steps_on s steps ≤ room_at c.release.new.self s) steps (c.release.ensures.room s) in
    omega (arith, gains)
