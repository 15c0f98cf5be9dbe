use Rattle.std.proofs.Common.{◌≡◌, ◌<◌, false, sym, subst, ap, ◌∙◌}
use Rattle.taxi_base.specs.Walks.{IsFeasibleWalk}
use Rattle.taxi_base.specs.State.{State, with_flight, holder_count, has_holder, holds_in}
use Rattle.taxi_base.specs.Faults.{conditions_in}
use Rattle.commitments.specs.Book.{Book, Fits}
use Rattle.commitments.specs.Holders.{state_of}
use Rattle.commitments.proofs.Fitting.{stands-unlifted, no-flight, fits-commit}
use Rattle.commitments.specs.Held.{flight_steps, steps_in}
use Rattle.commitments.proofs.StepsIn.{steps-with_flight}
use Rattle.commitments.proofs.LedgerSteps.{ledger-stands, as_many-more}
use Rattle.commitments.proofs.ledger.Ledger.commit.Goals as goal

pub hold_flight-requires-clause-feasible : goal.hold_flight-requires-clause-feasible
hold_flight-requires-clause-feasible c =
    let fits = subst (Fits c.args.airport.now) (sym c.self.view_is) c.requires.fits in
    let state = ap (λ (b : Book). b.state) c.self.view_is in
    let unlifted = ap (λ (b : Book). b.lifted) c.self.view_is ∙ c.requires.unlifted in
    (holds_in c.args.airport.now (state_of c.self.inside.holders), stands-unlifted c.args.airport.now _ fits unlifted, subst (λ (s : State). IsFeasibleWalk (conditions_in c.args.airport.now c.args.flight.class s) c.args.flight.steps) (sym state) c.requires.feasible)

pub insert-requires-clause-absent : goal.insert-requires-clause-absent
insert-requires-clause-absent c =
    let state = ap (λ (b : Book). b.state) c.self.view_is in
    no-flight c.args.flight.name (state_of c.self.inside.holders) (subst (λ (s : State). has_holder c.args.flight.name s ≡ false) (sym state) c.requires.absent)

pub returns-clause-kept : goal.returns-clause-kept
returns-clause-kept c = rw (← c.self.view_is) c.hold_flight.ensures.kept

pub returns-clause-fits : goal.returns-clause-fits
returns-clause-fits c =
    let fits = subst (Fits c.args.airport.now) (sym c.self.view_is) c.requires.fits in
    let state = ap (λ (b : Book). b.state) c.self.view_is in
    let unlifted = ap (λ (b : Book). b.lifted) c.self.view_is ∙ c.requires.unlifted in
    rw c.insert.ensures.flights
    (fits-commit c.args.airport.now _ fits c.hold_flight.new.held.store c.hold_flight.ensures.nodes c.insert.new.self.room c.self.inside.holders.parties.room c.args.flight
    unlifted (subst (λ (s : State). has_holder c.args.flight.name s ≡ false) (sym state) c.requires.absent) (subst (λ (s : State). holder_count s < 4096) (sym state) c.requires.few)
    (subst (λ (s : State). IsFeasibleWalk (conditions_in c.args.airport.now c.args.flight.class s) c.args.flight.steps) (sym state) c.requires.feasible)
    (c.hold_flight.ensures.stands (holds_in c.args.airport.now (state_of c.self.inside.holders)) (stands-unlifted c.args.airport.now _ fits unlifted)))

pub hold_flight-requires-clause-steps : goal.hold_flight-requires-clause-steps
hold_flight-requires-clause-steps c =
    let fits = subst (Fits c.args.airport.now) (sym c.self.view_is) c.requires.fits in
    ledger-stands c.args.airport.now _ c.self.inside.held.steps fits c.self.invariant

pub invariant_of-self : goal.invariant_of-self
invariant_of-self c =
    let state = state_of c.self.inside.holders in
    let unlifted = ap (λ (b : Book). b.lifted) c.self.view_is ∙ c.requires.unlifted in
    rw (unlifted, c.insert.ensures.flights)
    (as_many-more c.self.inside.held.steps (steps_in state) c.hold_flight.new.held.steps (steps_in (with_flight c.args.flight state)) (flight_steps c.args.flight) (rw unlifted at c.self.invariant) c.hold_flight.ensures.steps (steps-with_flight state c.args.flight))
