use Rattle.std.proofs.Common.{◌∙◌, sym, ap, subst}
use Rattle.taxi_base.specs.Windows.{is_free}
use Rattle.taxi_base.specs.State.{holds_in, without}
use Rattle.commitments.specs.Book.{Book, Fits}
use Rattle.commitments.specs.Holders.{state_of}
use Rattle.commitments.specs.Others.{IsFreeUntil}
use Rattle.commitments.proofs.OtherHolders.{free-until}
use Rattle.commitments.proofs.ledger.Ledger.free_until.Goals as goal

pub returns : goal.returns
returns c =
    let airport = c.args.airport.now in
    let name = c.args.name.now in
    let fits = subst (Fits airport) (sym c.self.view_is) c.requires.fits in
    let unlifted = ap (λ (b : Book). b.lifted) c.self.view_is ∙ c.requires.unlifted in
    let left = rw c.horizon.ensures.horizon at c.free_until.ensures in
    subst (λ (b : Book). IsFreeUntil (is_free airport.conflicts airport.horizon (holds_in airport (without name b.state)) c.args.segment) c.args.from airport.horizon c.free_until.result) c.self.view_is
    (free-until name airport (state_of c.self.inside.holders) fits.feasible c.self.inside.held.steps (rw unlifted at c.self.invariant) c.args.segment c.args.from c.free_until.result left)
