use Rattle.std.proofs.Common.{◌*◌, ◌+◌, ◌/◌, ◌<◌, [], length, sym, subst, arith}
use Rattle.std.proofs.lemmas.List.Elements.{All-cons, All-nil}
use Rattle.taxi_base.specs.declared.rows.Step.{Step}
use Rattle.commitments.specs.Book.{Fits}
use Rattle.commitments.proofs.Numbers.{few-held}
use Rattle.commitments.proofs.ledger.Ledger.prepare_party.Goals as goal

pub reserve-requires-clause-steps : goal.reserve-requires-clause-steps
reserve-requires-clause-steps c =
    let segment : (2 * c.args.segment.0 + 0) / 2 < length c.args.airport.now.segments = omega (arith, c.requires.segment) in
    rw (c.from_ref.ensures.value, c.forward.ensures)
    (All-cons (λ (s : Step). s.arc.0 / 2 < length c.args.airport.now.segments) _ [] segment (All-nil (λ (s : Step). s.arc.0 / 2 < length c.args.airport.now.segments)))

pub reserve-requires-clause-few : goal.reserve-requires-clause-few
reserve-requires-clause-few c =
    few-held c.args.airport.now c.keep_rules.ensures _ _ (subst (Fits c.args.airport.now) (sym c.self.view_is) c.requires.fits) (rw c.from_ref.ensures.len (omega arith))
