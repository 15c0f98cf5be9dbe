use Rattle.std.proofs.Common.{◌∙◌, true, false, sym, inr}
use Rattle.taxi_base.specs.Airport.{is_stand}
use Rattle.command_refusals.proofs.ChoiceDue.{of-names, arrival-no_stand, arrival-full}
use Rattle.command_refusals.proofs.choosing.asked_arrival_any.Goals as goal

pub returns-then-has_no_stand-clause-err : goal.returns-then-has_no_stand-clause-err
returns-then-has_no_stand-clause-err c =
    inr (arrival-no_stand c.args.airport.now c.args.ledger.now.state c.args.asked.now c.in_ok-trip.trip c.in_ok-trip.ensures.new c.in_ok-trip.ensures.named (sym c.has_runway.ensures ∙ c.if-not-has_runway.false)
    (of-names is_stand c.args.airport.now c.as_slice.result.now c.args.asked.now.nodes c.has_no_stand.result true c.has_no_stand.ensures c.as_slice.ensures c.if-has_no_stand.true))

pub returns-then-is_full-clause-err : goal.returns-then-is_full-clause-err
returns-then-is_full-clause-err c =
    inr (arrival-full c.args.airport.now c.args.ledger.now.state c.args.asked.now c.in_ok-trip.trip c.in_ok-trip.ensures.new c.in_ok-trip.ensures.named (sym c.has_runway.ensures ∙ c.if-not-has_runway.false)
    (of-names is_stand c.args.airport.now c.as_slice.result.now c.args.asked.now.nodes c.has_no_stand.result false c.has_no_stand.ensures c.as_slice.ensures c.if-has_no_stand.false) (sym c.is_full.ensures ∙ c.if-is_full.true))
