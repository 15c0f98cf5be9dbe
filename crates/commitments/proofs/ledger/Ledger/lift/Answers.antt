use Rattle.std.proofs.Common.{◌+◌, sym, subst, ap, ◌∙◌}
use Rattle.std.specs.Prelude.{remove}
use Rattle.taxi_base.specs.Windows.{holds_of}
use Rattle.taxi_base.specs.State.{holds_in}
use Rattle.window_store.specs.Stands.{route_holds, HasRoomFor}
use Rattle.commitments.specs.Book.{Book, Fits, route_of, routes_of}
use Rattle.commitments.specs.Holders.{state_of}
use Rattle.commitments.proofs.Routes.{flight-at, parties-over, route-left}
use Rattle.commitments.proofs.SameHolds.{HasRoomFor-fewer}
use Rattle.commitments.proofs.Fitting.{stands-unlifted, some-there, place-some, fits-lift}
use Rattle.std.proofs.Common.{List}
use Rattle.taxi_base.specs.declared.answers.Flight.{Flight}
use Rattle.taxi_base.proofs.NamedLists.{find-named}
use Rattle.commitments.specs.declared.segment_holds.HeldStep.{HeldStep}
use Rattle.commitments.specs.Held.{AreAsMany}
use Rattle.commitments.proofs.LedgerSteps.{steps-left}
use Rattle.commitments.proofs.ledger.Ledger.lift.Goals as goal

pub unwrap-place-requires : goal.unwrap-place-requires
unwrap-place-requires c =
    let flights = ap (λ (b : Book). b.state.flights) c.self.view_is in
    place-some c.self.inside.holders.flights.flights c.args.name.now c.place.result c.place.ensures (rw flights c.requires.in_force)

pub returns-clause-fits : goal.returns-clause-fits
returns-clause-fits c =
    let fits = subst (Fits c.args.airport.now) (sym c.self.view_is) c.requires.fits in
    let flights = ap (λ (b : Book). b.state.flights) c.self.view_is in
    let at = rw c.unwrap-place.ensures at c.place.ensures in
    let found = some-there _ (rw flights c.requires.in_force) in
    let route = flight-at c.args.airport.now (state_of c.self.inside.holders) c.count.result c.unwrap-place.result c.count.ensures.count found.0 (at.found ∙ found.1) in
    fits-lift c.args.airport.now _ fits c.free_holder.new.held.store c.free_holder.ensures.nodes c.self.inside.holders.flights.room c.self.inside.holders.parties.room c.args.name.now c.unwrap-place.result at
    found.0 found.1 (rw c.count.ensures.count at c.free_holder.ensures.stands) (rw route at c.free_holder.ensures.room)

pub returns-clause-prepared : goal.returns-clause-prepared
returns-clause-prepared c steps prepared =
    let airport = c.args.airport.now in
    let fits = subst (Fits airport) (sym c.self.view_is) c.requires.fits in
    let flights = ap (λ (b : Book). b.state.flights) c.self.view_is in
    let unlifted = ap (λ (b : Book). b.lifted) c.self.view_is ∙ c.requires.unlifted in
    let before = subst (λ (b : Book). HasRoomFor airport.conflicts steps b.store) (sym c.self.view_is) prepared in
    let at = rw c.unwrap-place.ensures at c.place.ensures in
    let found = some-there _ (rw flights c.requires.in_force) in
    let held = state_of c.self.inside.holders in
    let number = c.count.result + c.unwrap-place.result in
    let route = flight-at airport held c.count.result c.unwrap-place.result c.count.ensures.count found.0 (at.found ∙ found.1) in
    HasRoomFor-fewer airport.conflicts airport.horizon (holds_in airport held) (route_holds airport.horizon (remove (routes_of airport held) number))
    (holds_of airport.horizon (route_of airport found.0).clearance found.0.steps) c.self.inside.held.store c.free_holder.new.held.store
    (route-left airport held (parties-over airport held fits.feasible) number (route_of airport found.0) route)
    (stands-unlifted airport _ fits unlifted) c.free_holder.ensures.stands c.free_holder.ensures.nodes steps before

pub invariant_of-self : goal.invariant_of-self
invariant_of-self c =
    let fits = subst (Fits c.args.airport.now) (sym c.self.view_is) c.requires.fits in
    let state = state_of c.self.inside.holders in
    let flights = ap (λ (b : Book). b.state.flights) c.self.view_is in
    let at = rw c.unwrap-place.ensures at c.place.ensures in
    let found = some-there _ (rw flights c.requires.in_force) in
    let named = find-named (λ (f : Flight). f.name) c.args.name.now state.flights found.0 found.1 in
    subst (λ (steps : List HeldStep). AreAsMany c.free_holder.new.held.steps steps) (steps-left c.args.airport.now state fits.feasible c.args.name.now c.unwrap-place.result at found.0 (at.found ∙ found.1) named)
    (rw c.count.ensures.count at c.free_holder.ensures.steps)
