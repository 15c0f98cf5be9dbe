use Rattle.std.proofs.Common.{refl, ◌∙◌, sym, ap, subst, Some, None}
use Rattle.taxi_base.specs.Windows.{Hold}
use Rattle.taxi_base.specs.Faults.{taken_by}
use Rattle.commitments.specs.Book.{Book, Fits}
use Rattle.commitments.specs.Holders.{state_of}
use Rattle.commitments.proofs.Fitting.{stands-unlifted}
use Rattle.commitments.proofs.TakenCause.{taken_by-found, taken_by-in_window}
use Rattle.commitments.proofs.ledger.Ledger.taken_by.Goals as goal

pub is_free-requires-clause-segment : goal.is_free-requires-clause-segment
is_free-requires-clause-segment c =
    let fits = subst (Fits c.args.airport.now) (sym c.self.view_is) c.requires.fits in
    rw (c.store.ensures, fits.lists) c.requires.segment

pub returns-then-is_free : goal.returns-then-is_free
returns-then-is_free c =
    let hold : Hold = record { segment = c.args.segment; span = c.args.span } in
    let fits = subst (Fits c.args.airport.now) (sym c.self.view_is) c.requires.fits in
    let unlifted = ap (λ (b : Book). b.lifted) c.self.view_is ∙ c.requires.unlifted in
    sym (taken_by-in_window c.args.airport.now (state_of c.self.inside.holders) hold c.requires.segment c.requires.in_time
    c.self.inside.held.store (stands-unlifted c.args.airport.now _ fits unlifted) (rw fits.lists c.requires.segment) (rw c.store.ensures at c.if-is_free.ensures.0 refl))
    ∙ ap (λ (b : Book). taken_by c.args.airport.now b.state hold) c.self.view_is

pub returns-in_err-at : goal.returns-in_err-at
returns-in_err-at c =
    let hold : Hold = record { segment = c.args.segment; span = c.args.span } in
    let fits = subst (Fits c.args.airport.now) (sym c.self.view_is) c.requires.fits in
    let unlifted = ap (λ (b : Book). b.lifted) c.self.view_is ∙ c.requires.unlifted in
    c.from_residual.ensures
    ∙ sym (taken_by-found c.args.airport.now (state_of c.self.inside.holders) hold c.requires.segment c.requires.in_time fits.feasible c.self.inside.held.steps (rw unlifted at c.self.invariant) None c.in_err-at.ensures)
    ∙ ap (λ (b : Book). taken_by c.args.airport.now b.state hold) c.self.view_is

pub returns : goal.returns
returns c =
    let hold : Hold = record { segment = c.args.segment; span = c.args.span } in
    let fits = subst (Fits c.args.airport.now) (sym c.self.view_is) c.requires.fits in
    let unlifted = ap (λ (b : Book). b.lifted) c.self.view_is ∙ c.requires.unlifted in
    sym (taken_by-found c.args.airport.now (state_of c.self.inside.holders) hold c.requires.segment c.requires.in_time fits.feasible c.self.inside.held.steps (rw unlifted at c.self.invariant)
    (Some (c.in_ok-at.at, c.in_ok-at.by)) c.in_ok-at.ensures)
    ∙ ap (λ (b : Book). taken_by c.args.airport.now b.state hold) c.self.view_is
