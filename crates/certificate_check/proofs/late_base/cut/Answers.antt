use Rattle.std.proofs.Common.{◌≡◌, ◌∙◌, None, List, length, ap, sym, subst, All, IsTrue}
use Rattle.taxi_base.specs.declared.rows.Step.{Step}
use Rattle.taxi_base.specs.Airport.{layout_of, arc_exists}
use Rattle.taxi_base.specs.State.{State, flight_named}
use Rattle.checked_state.specs.Flights.{state_of}
use Rattle.certificate_check.specs.Late.{delay_in}
use Rattle.certificate_check.proofs.LateSteps.{kept-arcs}
use Rattle.certificate_check.proofs.LateTurn.{ok-then, out-absent, are-none, are-some}
use Rattle.certificate_check.proofs.LateBase.{cut-out, cut-on}
use Rattle.certificate_check.proofs.late_base.cut.Goals as goal

pub returns-then-is_empty-clause-state : goal.returns-then-is_empty-clause-state
returns-then-is_empty-clause-state c =
    let none = sym (ap (λ (ss : List Step). length ss) c.as_slice.ensures) ∙ are-none (length c.as_slice.result.now) (sym c.is_empty.ensures ∙ c.if-is_empty.true) in
    cut-out c.args.flight.now c.in_ok-steps.steps _ c.in_ok-steps.ensures (state_of c.take_out.new.held) _ c.take_out.ensures.state none

pub put_in-requires-clause-arcs : goal.put_in-requires-clause-arcs
put_in-requires-clause-arcs c =
    subst (All (λ step. IsTrue (arc_exists (layout_of c.args.airport.now) step.arc))) (sym c.in_ok-steps.ensures)
    (kept-arcs c.args.airport.now (delay_in c.args.late.now) c.args.flight.now c.requires.steps.arcs)

pub put_in-requires-clause-absent : goal.put_in-requires-clause-absent
put_in-requires-clause-absent c =
    let name = c.args.flight.now.name in
    subst (λ (s : State). flight_named name s.flights ≡ None) (sym c.take_out.ensures.state) (out-absent name (state_of c.args.held.now) c.requires.alone)

pub returns-clause-state : goal.returns-clause-state
returns-clause-state c =
    let some = rw c.as_slice.ensures at (are-some (length c.as_slice.result.now) (sym c.is_empty.ensures ∙ c.if-is_empty.false)) in
    ok-then c.put_in.result _ _ c.put_in.ensures.state
    (λ put. cut-on c.args.flight.now c.in_ok-steps.steps _ c.in_ok-steps.ensures (state_of c.take_out.new.held) _ c.take_out.ensures.state some (state_of c.put_in.new.held) put)
