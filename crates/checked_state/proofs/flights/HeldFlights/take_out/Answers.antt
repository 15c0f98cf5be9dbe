use Rattle.std.proofs.Common.{◌≡◌, ◌∙◌, sym, subst}
use Rattle.std.specs.Prelude.{Ok}
use Rattle.taxi_base.specs.declared.answers.Flight.{Flight}
use Rattle.taxi_base.specs.declared.answers.Party.{Party}
use Rattle.taxi_base.specs.State.{State, without}
use Rattle.held_spans.specs.Spans.{AreHeldBy}
use Rattle.checked_state.specs.Flights.{flights_of, parties_of, state_of, named_in}
use Rattle.checked_state.proofs.PlaceLaws.{named-at, place-at, place-there, without-at, left-none}
use Rattle.checked_state.proofs.FlightLaws.{take-apart}
use Rattle.checked_state.proofs.flights.HeldFlights.take_out.Goals as goal

pub unwrap-place-requires : goal.unwrap-place-requires
unwrap-place-requires c = place-there (λ (f : Flight). f.name) (flights_of c.args.self.now.flights) c.args.name.now c.args.self.now.flights.ordered c.place_of.result c.place_of.ensures c.requires.in_force

pub release-requires : goal.release-requires
release-requires c =
    let flights = flights_of c.args.self.now.flights in
    let name = c.args.name.now in
    let flight = c.remove-flight.result in
    let place = place-at (λ (f : Flight). f.name) flights name c.place_of.result (Ok c.unwrap-place.result) c.place_of.ensures c.unwrap-place.ensures in
    let found = named-at (λ (f : Flight). f.name) flights name c.args.self.now.flights.ordered c.unwrap-place.result place flight c.remove-flight.ensures.value in (
      named_in c.args.airport.now (without name (state_of c.args.self.now)),
      take-apart c.args.airport.now c.args.self.now.spans name (state_of c.args.self.now) flight c.args.self.now.flights.ordered c.requires.alone found c.horizon.result c.clearance-clearance.result c.as_slice-steps.result.now
          c.horizon.ensures.horizon c.clearance-clearance.ensures.clearance c.as_slice-steps.ensures c.requires.spans.holders,
    )

pub returns-clause-flight : goal.returns-clause-flight
returns-clause-flight c =
    let flights = flights_of c.args.self.now.flights in
    let name = c.args.name.now in
    let place = place-at (λ (f : Flight). f.name) flights name c.place_of.result (Ok c.unwrap-place.result) c.place_of.ensures c.unwrap-place.ensures in
    named-at (λ (f : Flight). f.name) flights name c.args.self.now.flights.ordered c.unwrap-place.result place c.remove-flight.result c.remove-flight.ensures.value

pub returns-clause-state : goal.returns-clause-state
returns-clause-state c =
    let flights = flights_of c.args.self.now.flights in
    let name = c.args.name.now in
    let flight = c.remove-flight.result in
    let place = place-at (λ (f : Flight). f.name) flights name c.place_of.result (Ok c.unwrap-place.result) c.place_of.ensures c.unwrap-place.ensures in
    let found = named-at (λ (f : Flight). f.name) flights name c.args.self.now.flights.ordered c.unwrap-place.result place flight c.remove-flight.ensures.value in
    let left = c.remove-flight.ensures.items ∙ without-at (λ (f : Flight). f.name) flights name c.args.self.now.flights.ordered c.unwrap-place.result place flight in
    let parties = left-none (λ (p : Party). p.name) name (parties_of c.args.self.now.parties) c.requires.alone in
    λ i. record { flights = left i; parties = sym parties i }

pub returns-clause-spans : goal.returns-clause-spans
returns-clause-spans c =
    let flights = flights_of c.args.self.now.flights in
    let name = c.args.name.now in
    let flight = c.remove-flight.result in
    let place = place-at (λ (f : Flight). f.name) flights name c.place_of.result (Ok c.unwrap-place.result) c.place_of.ensures c.unwrap-place.ensures in
    let found = named-at (λ (f : Flight). f.name) flights name c.args.self.now.flights.ordered c.unwrap-place.result place flight c.remove-flight.ensures.value in
    let left = c.remove-flight.ensures.items ∙ without-at (λ (f : Flight). f.name) flights name c.args.self.now.flights.ordered c.unwrap-place.result place flight in
    let parties = left-none (λ (p : Party). p.name) name (parties_of c.args.self.now.parties) c.requires.alone in
    let after : without name (state_of c.args.self.now) ≡ record { flights = flights_of c.remove-flight.new.self; parties = parties_of c.args.self.now.parties } = λ i. record { flights = sym left i; parties = parties i } in
    record {
      lists = c.release.ensures.count ∙ c.requires.spans.lists;
      holders = subst (λ (s : State). AreHeldBy (named_in c.args.airport.now s) c.release.new.self) after
          (c.release.ensures.gone (named_in c.args.airport.now (without name (state_of c.args.self.now)))
          (take-apart c.args.airport.now c.args.self.now.spans name (state_of c.args.self.now) flight c.args.self.now.flights.ordered c.requires.alone found c.horizon.result c.clearance-clearance.result c.as_slice-steps.result.now
          c.horizon.ensures.horizon c.clearance-clearance.ensures.clearance c.as_slice-steps.ensures c.requires.spans.holders));
    }
