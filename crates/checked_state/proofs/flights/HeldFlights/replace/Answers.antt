use Rattle.std.proofs.Common.{List, refl, ◌≡◌, ◌∙◌, ◌++◌, sym, ap, subst}
use Rattle.std.specs.Prelude.{Ok}
use Rattle.taxi_base.specs.declared.answers.Flight.{Flight}
use Rattle.taxi_base.specs.State.{State, with_route, flight_named, without}
use Rattle.held_spans.specs.Spans.{NamedHold, AreHeldBy}
use Rattle.held_spans.proofs.LoopLaws.{done-ok}
use Rattle.checked_state.specs.Flights.{flights_of, state_of, named_in}
use Rattle.checked_state.proofs.PlaceLaws.{place-at, place-there, if-some}
use Rattle.checked_state.proofs.FlightLaws.{its-parts, routed, route-state, route-spans, steps-listed}
use Rattle.checked_state.proofs.flights.HeldFlights.replace.Goals as goal

pub unwrap-place-requires : goal.unwrap-place-requires
unwrap-place-requires c = place-there (λ (f : Flight). f.name) (flights_of c.args.self.now.flights) c.args.name.now c.args.self.now.flights.ordered c.place_of.result c.place_of.ensures c.requires.in_force

pub hold-held-requires : goal.hold-held-requires
hold-held-requires c = record { on = rw c.as_slice.ensures (steps-listed c.args.airport.now _ c.args.steps c.requires.spans.lists c.requires.arcs) }

pub returns-clause-ok : goal.returns-clause-ok
returns-clause-ok c =
    let flights = flights_of c.args.self.now.flights in
    let name = c.args.name.now in
    let place = place-at (λ (f : Flight). f.name) flights name c.place_of.result (Ok c.unwrap-place.result) c.place_of.ensures c.unwrap-place.ensures in
    let flight = c.at-flight.result.now in
    let before : State = state_of c.args.self.now in
    if-some (flight_named name flights) (λ (other : Flight). record before { flights = flights_of c.set_route.new.self } ≡ with_route other c.args.request c.args.steps before)
    (λ other found. ap (λ (all : List Flight). record before { flights = all }) (c.set_route.ensures flight c.at-flight.ensures) ∙ route-state before name c.args.self.now.flights.ordered c.requires.alone c.unwrap-place.result place flight c.at-flight.ensures c.args.request c.args.steps other found)

pub returns-clause-spans : goal.returns-clause-spans
returns-clause-spans c =
    let flights = flights_of c.args.self.now.flights in
    let name = c.args.name.now in
    let place = place-at (λ (f : Flight). f.name) flights name c.place_of.result (Ok c.unwrap-place.result) c.place_of.ensures c.unwrap-place.ensures in
    let flight = c.at-flight.result.now in
    let airport = c.args.airport.now in
    let its = its-parts airport (routed flight c.args.request c.args.steps) flight.name c.horizon.result c.clearance-clearance.result c.as_slice.result.now refl c.horizon.ensures.horizon
    c.clearance-clearance.ensures.clearance c.as_slice.ensures in
    let held = done-ok c.hold-held.result _ c.hold-held.ensures.ok c.in_default.not-Err (named_in airport (without name (state_of c.args.self.now))) c.requires.spans.holders in
    record {
      lists = c.hold-held.ensures.count ∙ c.requires.spans.lists;
      holders = subst (λ (all : List Flight). AreHeldBy (named_in airport (record (state_of c.args.self.now) { flights = all })) c.hold-held.new.self) (sym (c.set_route.ensures flight c.at-flight.ensures))
          (route-spans (state_of c.args.self.now) name c.args.self.now.flights.ordered c.requires.alone c.unwrap-place.result place flight c.at-flight.ensures c.args.request c.args.steps airport c.hold-held.new.self
          (subst (λ (its : List NamedHold). AreHeldBy (named_in airport (without name (state_of c.args.self.now)) ++ its) c.hold-held.new.self) its held));
    }

pub lower-requires-clause-spans : goal.lower-requires-clause-spans
lower-requires-clause-spans c =
    record {
      lists = c.hold-held.ensures.count ∙ c.requires.spans.lists;
      holders = c.in-Err.ensures.err (named_in c.args.airport.now (without c.args.name.now (state_of c.args.self.now))) c.requires.spans.holders;
    }
