use Rattle.std.proofs.Common.{List}
use Rattle.std.proofs.Common.{sym, subst, ap, ◌∙◌, arith}
use Rattle.taxi_base.specs.declared.answers.Party.{Party}
use Rattle.taxi_base.specs.State.{party_step}
use Rattle.taxi_base.proofs.NamedLists.{find-named}
use Rattle.commitments.specs.Book.{Book, Fits}
use Rattle.commitments.specs.Holders.{state_of}
use Rattle.commitments.proofs.Routes.{party-at, party-kept, party-prepared, without-party}
use Rattle.commitments.proofs.Fitting.{fits-remove}
use Rattle.commitments.specs.declared.segment_holds.HeldStep.{HeldStep}
use Rattle.commitments.specs.Held.{joined, AreAsMany}
use Rattle.commitments.proofs.StepsIn.{each-party_left}
use Rattle.commitments.proofs.ledger.Ledger.remove.Goals as goal

pub returns-clause-state : goal.returns-clause-state
returns-clause-state c =
    let fits = subst (Fits c.args.airport.now) (sym c.self.view_is) c.requires.fits in
    let state = state_of c.self.inside.holders in
    let at = rw c.in_ok-number.was at c.place.ensures in
    let named = find-named (λ (p : Party). p.name) c.args.name.now state.parties c.remove.result (sym at.found ∙ c.remove.ensures.party) in
    rw (← c.self.view_is, c.remove.ensures.parties)
    (without-party c.args.airport.now state fits.feasible c.args.name.now c.in_ok-number.number at c.remove.result c.remove.ensures.party named)

pub returns-clause-prepared : goal.returns-clause-prepared
returns-clause-prepared c =
    let route = party-at c.args.airport.now (state_of c.self.inside.holders) c.in_ok-number.number c.remove.result c.remove.ensures.party in
    record {
      party = omega (arith, c.remove.ensures.room);
      windows = party-prepared c.args.airport.now c.remove.result.segment c.free_holder.new.held.store (party_step c.remove.result).enter (party_step c.remove.result).leave (rw route at c.free_holder.ensures.room);
    }

pub returns-clause-kept : goal.returns-clause-kept
returns-clause-kept c =
    let fits = subst (Fits c.args.airport.now) (sym c.self.view_is) c.requires.fits in
    let state = state_of c.self.inside.holders in
    let route = party-at c.args.airport.now state c.in_ok-number.number c.remove.result c.remove.ensures.party in
    rw (← c.self.view_is)
    (party-kept c.args.airport.now state fits.feasible c.in_ok-number.number c.remove.result c.remove.ensures.party c.self.inside.held.store c.free_holder.new.held.store (rw route at c.free_holder.ensures.kept))

pub returns-clause-fits : goal.returns-clause-fits
returns-clause-fits c =
    let fits = subst (Fits c.args.airport.now) (sym c.self.view_is) c.requires.fits in
    let unlifted = ap (λ (b : Book). b.lifted) c.self.view_is ∙ c.requires.unlifted in
    let at = rw c.in_ok-number.was at c.place.ensures in
    rw c.remove.ensures.parties
    (fits-remove c.args.airport.now _ fits c.free_holder.new.held.store c.free_holder.ensures.nodes c.self.inside.holders.flights.room c.remove.new.self.room c.args.name.now c.in_ok-number.number at
    c.remove.result (sym at.found ∙ c.remove.ensures.party) unlifted c.free_holder.ensures.stands)

pub invariant_of-self : goal.invariant_of-self
invariant_of-self c =
    let state = state_of c.self.inside.holders in
    let unlifted = ap (λ (b : Book). b.lifted) c.self.view_is ∙ c.requires.unlifted in
    let at = rw c.in_ok-number.was at c.place.ensures in
    rw (unlifted, c.remove.ensures.parties)
    (subst (λ (each : List (List HeldStep)). AreAsMany c.free_holder.new.held.steps (joined each)) (each-party_left state c.in_ok-number.number at.here) c.free_holder.ensures.steps)
