use Rattle.std.proofs.Common.{sym, subst, ap, ◌∙◌}
use Rattle.taxi_base.specs.State.{holds_in, without}
use Rattle.commitments.specs.Book.{Book, Fits}
use Rattle.commitments.specs.Holders.{state_of}
use Rattle.commitments.proofs.Fitting.{lifted-in_force, lifted-stands, lifted-room, lifted-walk, walk-at, place-some, fits-lower}
use Rattle.taxi_base.specs.declared.answers.Flight.{Flight}
use Rattle.taxi_base.proofs.NamedLists.{find-named}
use Rattle.commitments.specs.Held.{flight_steps, steps_in}
use Rattle.commitments.proofs.LedgerSteps.{ledger-stands, as_many-more, steps-back}
use Rattle.commitments.proofs.ledger.Ledger.lower.Goals as goal

pub unwrap-name-requires : goal.unwrap-name-requires
unwrap-name-requires c =
    let lifted = ap (λ (b : Book). b.lifted) c.self.view_is in
    rw (c.take.ensures.value, lifted) c.requires.lifted

pub unwrap-place-requires : goal.unwrap-place-requires
unwrap-place-requires c =
    let fits = subst (Fits c.args.airport.now) (sym c.self.view_is) c.requires.fits in
    place-some c.self.inside.holders.flights.flights c.unwrap-name.result c.place.result c.place.ensures
    (lifted-in_force c.args.airport.now _ c.unwrap-name.result fits (sym c.take.ensures.value ∙ c.unwrap-name.ensures))

pub hold_flight-requires-clause-feasible : goal.hold_flight-requires-clause-feasible
hold_flight-requires-clause-feasible c =
    let fits = subst (Fits c.args.airport.now) (sym c.self.view_is) c.requires.fits in
    let at = rw c.unwrap-place.ensures at c.place.ensures in
    (lifted-walk c.args.airport.now _ c.unwrap-name.result fits (sym c.take.ensures.value ∙ c.unwrap-name.ensures) c.at-flight.result.now (sym at.found ∙ c.at-flight.ensures) _
    (walk-at c.args.airport.now (state_of c.self.inside.holders) fits.feasible c.unwrap-place.result c.at-flight.result.now c.at-flight.ensures))

pub hold_flight-requires-clause-room : goal.hold_flight-requires-clause-room
hold_flight-requires-clause-room c =
    let fits = subst (Fits c.args.airport.now) (sym c.self.view_is) c.requires.fits in
    let at = rw c.unwrap-place.ensures at c.place.ensures in
    (lifted-room c.args.airport.now _ c.unwrap-name.result fits (sym c.take.ensures.value ∙ c.unwrap-name.ensures) c.at-flight.result.now (sym at.found ∙ c.at-flight.ensures))

pub returns-clause-fits : goal.returns-clause-fits
returns-clause-fits c =
    let fits = subst (Fits c.args.airport.now) (sym c.self.view_is) c.requires.fits in
    let at = rw c.unwrap-place.ensures at c.place.ensures in
    let lifted = sym c.take.ensures.value ∙ c.unwrap-name.ensures in
    rw c.take.ensures.after
    (fits-lower c.args.airport.now _ fits c.hold_flight.new.held.store c.hold_flight.ensures.nodes c.self.inside.holders.flights.room c.self.inside.holders.parties.room c.unwrap-name.result c.unwrap-place.result at
    c.at-flight.result.now (sym at.found ∙ c.at-flight.ensures)
    (c.hold_flight.ensures.stands (holds_in c.args.airport.now (without c.unwrap-name.result (state_of c.self.inside.holders))) (lifted-stands c.args.airport.now _ c.unwrap-name.result fits lifted)))

pub hold_flight-requires-clause-steps : goal.hold_flight-requires-clause-steps
hold_flight-requires-clause-steps c =
    let fits = subst (Fits c.args.airport.now) (sym c.self.view_is) c.requires.fits in
    ledger-stands c.args.airport.now _ c.self.inside.held.steps fits c.self.invariant

pub invariant_of-self : goal.invariant_of-self
invariant_of-self c =
    let fits = subst (Fits c.args.airport.now) (sym c.self.view_is) c.requires.fits in
    let state = state_of c.self.inside.holders in
    let at = rw c.unwrap-place.ensures at c.place.ensures in
    let lifted = sym c.take.ensures.value ∙ c.unwrap-name.ensures in
    let name = c.unwrap-name.result in
    let flight = c.at-flight.result.now in
    let named = find-named (λ (f : Flight). f.name) name state.flights flight (sym at.found ∙ c.at-flight.ensures) in
    rw c.take.ensures.after
    (as_many-more c.self.inside.held.steps (steps_in (without name state)) c.hold_flight.new.held.steps (steps_in state) (flight_steps flight) (rw lifted at c.self.invariant) c.hold_flight.ensures.steps
    (steps-back c.args.airport.now state fits.feasible name c.unwrap-place.result at flight c.at-flight.ensures named))
