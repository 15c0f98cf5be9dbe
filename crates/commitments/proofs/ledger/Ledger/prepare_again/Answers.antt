use Rattle.std.proofs.Common.{sym, subst}
use Rattle.commitments.specs.Book.{Fits}
use Rattle.commitments.proofs.Numbers.{arcs-on_segments, few-held}
use Rattle.commitments.proofs.ledger.Ledger.prepare_again.Goals as goal

pub reserve-requires-clause-steps : goal.reserve-requires-clause-steps
reserve-requires-clause-steps c =
    arcs-on_segments c.args.airport.now c.args.steps.now c.requires.arcs

pub reserve-requires-clause-few : goal.reserve-requires-clause-few
reserve-requires-clause-few c =
    few-held c.args.airport.now c.keep_rules.ensures _ _ (subst (Fits c.args.airport.now) (sym c.self.view_is) c.requires.fits) c.requires.few
