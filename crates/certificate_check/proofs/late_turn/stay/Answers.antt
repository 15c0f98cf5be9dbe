use Rattle.std.proofs.Common.{◌∙◌, List, length, ap, sym}
use Rattle.taxi_base.specs.declared.rows.Step.{Step}
use Rattle.taxi_base.specs.State.{State}
use Rattle.checked_state.specs.Flights.{state_of}
use Rattle.certificate_check.proofs.LateTurn.{ok-then, are-none, are-some, stayed-out, stayed-on}
use Rattle.certificate_check.proofs.late_turn.stay.Goals as goal

pub returns-then-is_empty-clause-state : goal.returns-then-is_empty-clause-state
returns-then-is_empty-clause-state c state left =
    let none = are-none (length c.as_slice.result.now) (sym c.is_empty.ensures ∙ c.if-is_empty.true) in
    stayed-out c.args.turn state (state_of c.args.held.now) left (sym (ap (λ (ss : List Step). length ss) c.as_slice.ensures) ∙ none)

pub returns-clause-state : goal.returns-clause-state
returns-clause-state c =
    let some = rw c.as_slice.ensures at (are-some (length c.as_slice.result.now) (sym c.is_empty.ensures ∙ c.if-is_empty.false)) in
    ok-then c.put_in.result _ _ c.put_in.ensures.state (λ put state left. stayed-on c.args.turn state (state_of c.args.held.now) (state_of c.put_in.new.held) left some put)

pub returns-clause-parties : goal.returns-clause-parties
returns-clause-parties c = ok-then c.put_in.result _ _ c.put_in.ensures.state (λ put. ap (λ (s : State). s.parties) put)
