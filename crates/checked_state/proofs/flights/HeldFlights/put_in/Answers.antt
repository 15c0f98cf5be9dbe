use Rattle.std.proofs.Common.{List, refl, ◌≡◌, ◌∙◌, ◌++◌, length, get_or, sym, ap, subst, arith}
use Rattle.std.specs.Prelude.{Err}
use Rattle.std.specs.List.{remove}
use Rattle.taxi_base.specs.declared.answers.Flight.{Flight}
use Rattle.taxi_base.specs.State.{State}
use Rattle.held_spans.specs.Spans.{NamedHold, AreHeldBy}
use Rattle.held_spans.proofs.LoopLaws.{done-ok}
use Rattle.checked_state.specs.Flights.{flights_of, parties_of, state_of, named_in, flight_held}
use Rattle.checked_state.proofs.MapLaws.{insert-here, length-insert, remove-insert}
use Rattle.checked_state.proofs.PlaceLaws.{place-at, place-gone, with-at}
use Rattle.checked_state.proofs.FlightLaws.{its-parts, steps-listed, spans-with}
use Rattle.checked_state.proofs.flights.HeldFlights.put_in.Goals as goal

pub unwrap_err-place-requires : goal.unwrap_err-place-requires
unwrap_err-place-requires c = place-gone (λ (f : Flight). f.name) (flights_of c.args.self.now.flights) c.args.flight.name c.args.self.now.flights.ordered c.args.flight c.place_of.result c.place_of.ensures c.requires.absent

pub insert-requires : goal.insert-requires
insert-requires c = place-at (λ (f : Flight). f.name) (flights_of c.args.self.now.flights) c.args.flight.name c.place_of.result (Err c.unwrap_err-place.result) c.place_of.ensures c.unwrap_err-place.ensures

pub at-flight-requires : goal.at-flight-requires
at-flight-requires c =
    let gap = (place-at (λ (f : Flight). f.name) (flights_of c.args.self.now.flights) c.args.flight.name c.place_of.result (Err c.unwrap_err-place.result) c.place_of.ensures c.unwrap_err-place.ensures).gap in
    omega (arith, gap, ap length c.in_ok-insert.ensures.ok, length-insert (flights_of c.args.self.now.flights) c.unwrap_err-place.result c.args.flight)

pub hold-held-requires : goal.hold-held-requires
hold-held-requires c =
    let old = flights_of c.args.self.now.flights in
    let place = c.unwrap_err-place.result in
    let flight = c.at-flight.result.now in
    let gap = place-at (λ (f : Flight). f.name) old c.args.flight.name c.place_of.result (Err place) c.place_of.ensures c.unwrap_err-place.ensures in
    let here : flight ≡ c.args.flight = c.at-flight.ensures ∙ ap (λ (all : List Flight). get_or all place flight) c.in_ok-insert.ensures.ok ∙ insert-here old place c.args.flight flight gap.gap in
    record { on = rw (c.as_slice-steps.ensures, here) (steps-listed c.args.airport.now _ c.args.flight.steps c.requires.spans.lists c.requires.arcs) }

-- where the spans find no memory the flight is taken out again
pub returns-in-Err-clause-err : goal.returns-in-Err-clause-err
returns-in-Err-clause-err c =
    let old = flights_of c.args.self.now.flights in
    let place = c.unwrap_err-place.result in
    let gap = place-at (λ (f : Flight). f.name) old c.args.flight.name c.place_of.result (Err place) c.place_of.ensures c.unwrap_err-place.ensures in
    let back = c.remove.ensures.items ∙ ap (λ (all : List Flight). remove all place) c.in_ok-insert.ensures.ok ∙ remove-insert old place c.args.flight gap.gap in
    λ i. record { flights = back i; parties = parties_of c.args.self.now.parties }

pub returns-in-Err-clause-spans : goal.returns-in-Err-clause-spans
returns-in-Err-clause-spans c =
    let old = flights_of c.args.self.now.flights in
    let place = c.unwrap_err-place.result in
    let gap = place-at (λ (f : Flight). f.name) old c.args.flight.name c.place_of.result (Err place) c.place_of.ensures c.unwrap_err-place.ensures in
    let back = c.remove.ensures.items ∙ ap (λ (all : List Flight). remove all place) c.in_ok-insert.ensures.ok ∙ remove-insert old place c.args.flight gap.gap in
    let before : State = state_of c.args.self.now in
    let kept = c.in-Err.ensures.err (named_in c.args.airport.now before) c.requires.spans.holders in
    record {
      lists = c.hold-held.ensures.count ∙ c.requires.spans.lists;
      holders = subst (λ (flights : List Flight). AreHeldBy (named_in c.args.airport.now (record before { flights = flights })) c.hold-held.new.self) (sym back) kept;
    }

pub returns-clause-ok : goal.returns-clause-ok
returns-clause-ok c =
    let old = flights_of c.args.self.now.flights in
    let place = place-at (λ (f : Flight). f.name) old c.args.flight.name c.place_of.result (Err c.unwrap_err-place.result) c.place_of.ensures c.unwrap_err-place.ensures in
    let with = c.in_ok-insert.ensures.ok ∙ with-at (λ (f : Flight). f.name) c.args.flight old c.unwrap_err-place.result place in
    λ i. record { flights = with i; parties = parties_of c.args.self.now.parties }

pub returns-clause-spans : goal.returns-clause-spans
returns-clause-spans c =
    let airport = c.args.airport.now in
    let old = flights_of c.args.self.now.flights in
    let at = c.unwrap_err-place.result in
    let flight = c.at-flight.result.now in
    let place = place-at (λ (f : Flight). f.name) old c.args.flight.name c.place_of.result (Err at) c.place_of.ensures c.unwrap_err-place.ensures in
    let here : flight ≡ c.args.flight = c.at-flight.ensures ∙ ap (λ (all : List Flight). get_or all at flight) c.in_ok-insert.ensures.ok ∙ insert-here old at c.args.flight flight place.gap in
    let with = c.in_ok-insert.ensures.ok ∙ with-at (λ (f : Flight). f.name) c.args.flight old at place in
    let its = its-parts airport flight flight.name c.horizon.result c.clearance-clearance.result c.as_slice-steps.result.now refl c.horizon.ensures.horizon c.clearance-clearance.ensures.clearance c.as_slice-steps.ensures in
    let before : State = state_of c.args.self.now in
    let held = done-ok c.hold-held.result _ c.hold-held.ensures.ok c.in_default.not-Err (named_in airport before) c.requires.spans.holders in
    record {
      lists = c.hold-held.ensures.count ∙ c.requires.spans.lists;
      holders = subst (λ (flights : List Flight). AreHeldBy (named_in airport (record before { flights = flights })) c.hold-held.new.self) (sym with)
          (spans-with airport c.hold-held.new.self c.args.flight before
          (subst (λ (f : Flight). AreHeldBy (named_in airport before ++ flight_held airport f) c.hold-held.new.self) here
          (subst (λ (its : List NamedHold). AreHeldBy (named_in airport before ++ its) c.hold-held.new.self) its held)));
    }
