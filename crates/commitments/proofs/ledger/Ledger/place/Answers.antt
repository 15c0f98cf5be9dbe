use Rattle.std.proofs.Common.{◌≡◌, ◌<◌, false, sym, subst, ap, ◌∙◌}
use Rattle.taxi_base.specs.State.{State, with_party, holder_count, has_holder, holds_in, party_hold, IsFeasibleHold}
use Rattle.commitments.specs.Book.{Book, Fits}
use Rattle.commitments.specs.Holders.{state_of}
use Rattle.commitments.proofs.Fitting.{stands-unlifted, fits-place}
use Rattle.commitments.specs.Held.{party_steps, steps_in}
use Rattle.commitments.proofs.StepsIn.{steps-with_party}
use Rattle.commitments.proofs.LedgerSteps.{ledger-stands, as_many-more}
use Rattle.commitments.proofs.ledger.Ledger.place.Goals as goal

pub hold_party-step-requires-clause-stands : goal.hold_party-step-requires-clause-stands
hold_party-step-requires-clause-stands c =
    let fits = subst (Fits c.args.airport.now) (sym c.self.view_is) c.requires.fits in
    let unlifted = ap (λ (b : Book). b.lifted) c.self.view_is ∙ c.requires.unlifted in
    (holds_in c.args.airport.now (state_of c.self.inside.holders), stands-unlifted c.args.airport.now _ fits unlifted)

pub returns-clause-fits : goal.returns-clause-fits
returns-clause-fits c =
    let fits = subst (Fits c.args.airport.now) (sym c.self.view_is) c.requires.fits in
    let state = ap (λ (b : Book). b.state) c.self.view_is in
    let unlifted = ap (λ (b : Book). b.lifted) c.self.view_is ∙ c.requires.unlifted in
    rw c.insert.ensures.parties
    (fits-place c.args.airport.now _ fits c.hold_party-step.new.held.store c.hold_party-step.ensures.nodes c.self.inside.holders.flights.room c.insert.new.self.room c.args.party
    unlifted (subst (λ (s : State). has_holder c.args.party.name s ≡ false) (sym state) c.requires.absent) (subst (λ (s : State). holder_count s < 4096) (sym state) c.requires.few)
    (subst (λ (s : State). IsFeasibleHold c.args.airport.now s (party_hold c.args.party)) (sym state) c.requires.feasible)
    (c.hold_party-step.ensures.stands (holds_in c.args.airport.now (state_of c.self.inside.holders)) (stands-unlifted c.args.airport.now _ fits unlifted)))

pub hold_party-step-requires-clause-steps : goal.hold_party-step-requires-clause-steps
hold_party-step-requires-clause-steps c =
    let fits = subst (Fits c.args.airport.now) (sym c.self.view_is) c.requires.fits in
    ledger-stands c.args.airport.now _ c.self.inside.held.steps fits c.self.invariant

pub invariant_of-self : goal.invariant_of-self
invariant_of-self c =
    let state = state_of c.self.inside.holders in
    let unlifted = ap (λ (b : Book). b.lifted) c.self.view_is ∙ c.requires.unlifted in
    rw (unlifted, c.insert.ensures.parties)
    (as_many-more c.self.inside.held.steps (steps_in state) c.hold_party-step.new.held.steps (steps_in (with_party c.args.party state)) (party_steps c.args.party) (rw unlifted at c.self.invariant) c.hold_party-step.ensures.steps (steps-with_party state c.args.party))
