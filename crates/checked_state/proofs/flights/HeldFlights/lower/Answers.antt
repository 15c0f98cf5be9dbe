use Rattle.std.proofs.Common.{◌∙◌}
use Rattle.taxi_base.specs.declared.answers.Flight.{Flight}
use Rattle.taxi_base.specs.State.{without}
use Rattle.checked_state.specs.Flights.{flights_of, state_of, named_in}
use Rattle.checked_state.proofs.PlaceLaws.{found-at, place-there}
use Rattle.checked_state.proofs.FlightLaws.{put-together, steps-listed}
use Rattle.checked_state.proofs.flights.HeldFlights.lower.Goals as goal

pub unwrap-place-requires : goal.unwrap-place-requires
unwrap-place-requires c = place-there (λ (f : Flight). f.name) (flights_of c.args.self.now.flights) c.args.name.now c.args.self.now.flights.ordered c.place_of.result c.place_of.ensures c.requires.in_force

pub hold-requires : goal.hold-requires
hold-requires c =
    let flights = flights_of c.args.self.now.flights in
    let name = c.args.name.now in
    let flight = c.at-flight.result.now in
    let found = found-at (λ (f : Flight). f.name) flights name c.args.self.now.flights.ordered c.place_of.result c.unwrap-place.result c.place_of.ensures c.unwrap-place.ensures flight c.at-flight.ensures in
    record { on = rw c.as_slice-steps.ensures (steps-listed c.args.airport.now _ flight.steps c.requires.spans.lists (rw found at c.requires.arcs)) }

pub unwrap-requires : goal.unwrap-requires
unwrap-requires c =
    let flights = flights_of c.args.self.now.flights in
    let name = c.args.name.now in
    let flight = c.at-flight.result.now in
    let found = found-at (λ (f : Flight). f.name) flights name c.args.self.now.flights.ordered c.place_of.result c.unwrap-place.result c.place_of.ensures c.unwrap-place.ensures flight c.at-flight.ensures in
    c.hold.ensures.succeeds (λ s. rw c.as_slice-steps.ensures (c.requires.room flight found s))

pub returns-clause-spans : goal.returns-clause-spans
returns-clause-spans c =
    let flights = flights_of c.args.self.now.flights in
    let name = c.args.name.now in
    let flight = c.at-flight.result.now in
    let found = found-at (λ (f : Flight). f.name) flights name c.args.self.now.flights.ordered c.place_of.result c.unwrap-place.result c.place_of.ensures c.unwrap-place.ensures flight c.at-flight.ensures in
    record {
      lists = c.hold.ensures.count ∙ c.requires.spans.lists;
      holders = put-together c.args.airport.now c.hold.new.self name (state_of c.args.self.now) flight c.args.self.now.flights.ordered c.requires.alone found c.horizon.result c.clearance-clearance.result c.as_slice-steps.result.now
          c.horizon.ensures.horizon c.clearance-clearance.ensures.clearance c.as_slice-steps.ensures
          ((rw c.unwrap.ensures at c.hold.ensures.ok) (named_in c.args.airport.now (without name (state_of c.args.self.now))) c.requires.spans.holders);
    }
