use Rattle.std.proofs.Common.{◌∙◌, true, false, sym, inr}
use Rattle.taxi_base.specs.Airport.{is_runway}
use Rattle.command_refusals.proofs.ChoiceDue.{of-names, departure-no_runway, departure-full}
use Rattle.command_refusals.proofs.choosing.asked_departure_any.Goals as goal

pub returns-then-has_no_runway-clause-err : goal.returns-then-has_no_runway-clause-err
returns-then-has_no_runway-clause-err c =
    inr (departure-no_runway c.args.airport.now c.args.ledger.now.state c.args.asked.now c.in_ok-trip.trip c.in_ok-trip.ensures.new c.in_ok-trip.ensures.named (sym c.has_stand.ensures ∙ c.if-not-has_stand.false)
    (of-names is_runway c.args.airport.now c.as_slice.result.now c.args.asked.now.nodes c.has_no_runway.result true c.has_no_runway.ensures c.as_slice.ensures c.if-has_no_runway.true))

pub returns-then-is_full-clause-err : goal.returns-then-is_full-clause-err
returns-then-is_full-clause-err c =
    inr (departure-full c.args.airport.now c.args.ledger.now.state c.args.asked.now c.in_ok-trip.trip c.in_ok-trip.ensures.new c.in_ok-trip.ensures.named (sym c.has_stand.ensures ∙ c.if-not-has_stand.false)
    (of-names is_runway c.args.airport.now c.as_slice.result.now c.args.asked.now.nodes c.has_no_runway.result false c.has_no_runway.ensures c.as_slice.ensures c.if-has_no_runway.false) (sym c.is_full.ensures ∙ c.if-is_full.true))
