use Rattle.std.proofs.Common.{List}
use Rattle.std.proofs.Common.{sym, subst, ap, ◌∙◌, arith}
use Rattle.taxi_base.specs.declared.answers.Flight.{Flight}
use Rattle.taxi_base.proofs.NamedLists.{find-named}
use Rattle.commitments.specs.Book.{Book, Fits}
use Rattle.commitments.specs.Holders.{state_of}
use Rattle.commitments.proofs.Routes.{flight-at, without-flight}
use Rattle.commitments.proofs.Fitting.{fits-cancel}
use Rattle.commitments.specs.declared.segment_holds.HeldStep.{HeldStep}
use Rattle.commitments.specs.Held.{joined, AreAsMany}
use Rattle.commitments.proofs.StepsIn.{each-flight_left}
use Rattle.commitments.proofs.ledger.Ledger.cancel.Goals as goal

pub returns-clause-state : goal.returns-clause-state
returns-clause-state c =
    let fits = subst (Fits c.args.airport.now) (sym c.self.view_is) c.requires.fits in
    let state = state_of c.self.inside.holders in
    let at = rw c.in_ok-place.was at c.place.ensures in
    let named = find-named (λ (f : Flight). f.name) c.args.name.now state.flights c.remove.result (sym at.found ∙ c.remove.ensures.flight) in
    rw (← c.self.view_is, c.remove.ensures.flights)
    (without-flight c.args.airport.now state fits.feasible c.args.name.now c.in_ok-place.place at c.remove.result c.remove.ensures.flight named)

pub returns-clause-prepared : goal.returns-clause-prepared
returns-clause-prepared c =
    let route = flight-at c.args.airport.now (state_of c.self.inside.holders) c.count.result c.in_ok-place.place c.count.ensures.count c.remove.result c.remove.ensures.flight in
    record { flight = omega (arith, c.remove.ensures.room); windows = rw route at c.free_holder.ensures.room }

pub returns-clause-kept : goal.returns-clause-kept
returns-clause-kept c =
    let route = flight-at c.args.airport.now (state_of c.self.inside.holders) c.count.result c.in_ok-place.place c.count.ensures.count c.remove.result c.remove.ensures.flight in
    rw (← c.self.view_is) (rw route at c.free_holder.ensures.kept)

pub returns-clause-fits : goal.returns-clause-fits
returns-clause-fits c =
    let fits = subst (Fits c.args.airport.now) (sym c.self.view_is) c.requires.fits in
    let unlifted = ap (λ (b : Book). b.lifted) c.self.view_is ∙ c.requires.unlifted in
    let at = rw c.in_ok-place.was at c.place.ensures in
    rw c.remove.ensures.flights
    (fits-cancel c.args.airport.now _ fits c.free_holder.new.held.store c.free_holder.ensures.nodes c.remove.new.self.room c.self.inside.holders.parties.room c.args.name.now c.in_ok-place.place at
    c.remove.result (sym at.found ∙ c.remove.ensures.flight) unlifted (rw c.count.ensures.count at c.free_holder.ensures.stands))

pub invariant_of-self : goal.invariant_of-self
invariant_of-self c =
    let state = state_of c.self.inside.holders in
    let unlifted = ap (λ (b : Book). b.lifted) c.self.view_is ∙ c.requires.unlifted in
    rw (unlifted, c.remove.ensures.flights)
    (subst (λ (each : List (List HeldStep)). AreAsMany c.free_holder.new.held.steps (joined each)) (each-flight_left state c.in_ok-place.place) (rw c.count.ensures.count at c.free_holder.ensures.steps))
