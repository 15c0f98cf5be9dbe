use Rattle.std.proofs.Common.{sym, subst, ap, ◌∙◌}
use Rattle.std.specs.Option.{ForSome}
use Rattle.taxi_base.specs.declared.answers.Flight.{Flight}
use Rattle.taxi_base.specs.Walks.{IsFeasibleWalk}
use Rattle.taxi_base.specs.State.{holds_in, without, conditions_of}
use Rattle.commitments.specs.Book.{Book, Fits, lifted_flight}
use Rattle.commitments.specs.Holders.{state_of}
use Rattle.taxi_base.proofs.NamedLists.{absent-left, find-named}
use Rattle.commitments.proofs.Fitting.{lifted-in_force, lifted-flight, lifted-stands, lifted-walk, place-some, replaced, fits-replace}
use Rattle.std.specs.Prelude.{remove}
use Rattle.taxi_base.specs.State.{State, with_flight}
use Rattle.commitments.specs.Held.{flight_steps, steps_in, AreAsMany}
use Rattle.commitments.proofs.Routes.{without-flight}
use Rattle.commitments.proofs.StepsIn.{steps-with_flight}
use Rattle.commitments.proofs.LedgerSteps.{ledger-stands, as_many-more}
use Rattle.commitments.proofs.ledger.Ledger.replace.Goals as goal

pub unwrap-name-requires : goal.unwrap-name-requires
unwrap-name-requires c =
    let lifted = ap (λ (b : Book). b.lifted) c.self.view_is in
    rw (c.take.ensures.value, lifted) c.requires.lifted

pub unwrap-place-requires : goal.unwrap-place-requires
unwrap-place-requires c =
    let fits = subst (Fits c.args.airport.now) (sym c.self.view_is) c.requires.fits in
    place-some c.self.inside.holders.flights.flights c.unwrap-name.result c.place.result c.place.ensures
    (lifted-in_force c.args.airport.now _ c.unwrap-name.result fits (sym c.take.ensures.value ∙ c.unwrap-name.ensures))

pub hold_flight-requires-clause-feasible : goal.hold_flight-requires-clause-feasible
hold_flight-requires-clause-feasible c =
    let fits = subst (Fits c.args.airport.now) (sym c.self.view_is) c.requires.fits in
    let at = rw c.unwrap-place.ensures at c.place.ensures in
    let lifted = sym c.take.ensures.value ∙ c.unwrap-name.ensures in
    let found = sym at.found ∙ c.remove-flight.ensures.flight in
    let feasible = subst (λ (b : Book). ForSome (lifted_flight b) (λ flight. IsFeasibleWalk (conditions_of c.args.airport.now b.state flight) c.args.steps)) (sym c.self.view_is) c.requires.feasible in
    (lifted-walk c.args.airport.now _ c.unwrap-name.result fits lifted c.remove-flight.result found c.args.steps
    (feasible c.remove-flight.result (lifted-flight c.args.airport.now _ c.unwrap-name.result fits lifted c.remove-flight.result found)))

pub insert-requires-clause-absent : goal.insert-requires-clause-absent
insert-requires-clause-absent c =
    let at = rw c.unwrap-place.ensures at c.place.ensures in
    let found = sym at.found ∙ c.remove-flight.ensures.flight in
    rw (c.remove-flight.ensures.flights, at.others, find-named (λ (f : Flight). f.name) c.unwrap-name.result c.self.inside.holders.flights.flights c.remove-flight.result found)
    (absent-left (λ (f : Flight). f.name) c.unwrap-name.result c.self.inside.holders.flights.flights)

pub returns-clause-state : goal.returns-clause-state
returns-clause-state c =
    let fits = subst (Fits c.args.airport.now) (sym c.self.view_is) c.requires.fits in
    let at = rw c.unwrap-place.ensures at c.place.ensures in
    let lifted = sym c.take.ensures.value ∙ c.unwrap-name.ensures in
    let found = sym at.found ∙ c.remove-flight.ensures.flight in
    rw (← c.self.view_is, lifted-flight c.args.airport.now _ c.unwrap-name.result fits lifted c.remove-flight.result found, c.insert.ensures.flights, c.remove-flight.ensures.flights)
    (replaced c.args.airport.now _ fits c.hold_flight.new.held.store c.hold_flight.ensures.nodes c.insert.new.self.room c.self.inside.holders.parties.room c.unwrap-name.result c.unwrap-place.result at
    c.remove-flight.result found c.args.request c.args.steps)

pub returns-clause-fits : goal.returns-clause-fits
returns-clause-fits c =
    let fits = subst (Fits c.args.airport.now) (sym c.self.view_is) c.requires.fits in
    let at = rw c.unwrap-place.ensures at c.place.ensures in
    let lifted = sym c.take.ensures.value ∙ c.unwrap-name.ensures in
    let found = sym at.found ∙ c.remove-flight.ensures.flight in
    let feasible = subst (λ (b : Book). ForSome (lifted_flight b) (λ flight. IsFeasibleWalk (conditions_of c.args.airport.now b.state flight) c.args.steps)) (sym c.self.view_is) c.requires.feasible in
    rw (c.take.ensures.after, c.insert.ensures.flights, c.remove-flight.ensures.flights)
    (fits-replace c.args.airport.now _ fits c.hold_flight.new.held.store c.hold_flight.ensures.nodes c.insert.new.self.room c.self.inside.holders.parties.room c.unwrap-name.result c.unwrap-place.result at
    c.remove-flight.result found c.args.request c.args.steps
    (feasible c.remove-flight.result (lifted-flight c.args.airport.now _ c.unwrap-name.result fits lifted c.remove-flight.result found))
    (c.hold_flight.ensures.stands (holds_in c.args.airport.now (without c.unwrap-name.result (state_of c.self.inside.holders))) (lifted-stands c.args.airport.now _ c.unwrap-name.result fits lifted)))

pub hold_flight-requires-clause-steps : goal.hold_flight-requires-clause-steps
hold_flight-requires-clause-steps c =
    let fits = subst (Fits c.args.airport.now) (sym c.self.view_is) c.requires.fits in
    ledger-stands c.args.airport.now _ c.self.inside.held.steps fits c.self.invariant

pub invariant_of-self : goal.invariant_of-self
invariant_of-self c =
    let fits = subst (Fits c.args.airport.now) (sym c.self.view_is) c.requires.fits in
    let state = state_of c.self.inside.holders in
    let at = rw c.unwrap-place.ensures at c.place.ensures in
    let lifted = sym c.take.ensures.value ∙ c.unwrap-name.ensures in
    let name = c.unwrap-name.result in
    let old = c.remove-flight.result in
    let flight : Flight = record old { request = c.args.request; steps = c.args.steps } in
    let rest : State = record state { flights = remove state.flights c.unwrap-place.result } in
    let named = find-named (λ (f : Flight). f.name) name state.flights old (sym at.found ∙ c.remove-flight.ensures.flight) in
    let same = without-flight c.args.airport.now state fits.feasible name c.unwrap-place.result at old c.remove-flight.ensures.flight named in
    let before = rw lifted at c.self.invariant in
    rw (c.take.ensures.after, c.insert.ensures.flights, c.remove-flight.ensures.flights)
    (as_many-more c.self.inside.held.steps (steps_in rest) c.hold_flight.new.held.steps (steps_in (with_flight flight rest)) (flight_steps flight)
    (subst (λ (s : State). AreAsMany c.self.inside.held.steps (steps_in s)) (sym same) before) c.hold_flight.ensures.steps (steps-with_flight rest flight))
