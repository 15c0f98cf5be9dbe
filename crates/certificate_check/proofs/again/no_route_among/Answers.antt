use Rattle.std.proofs.Common.{◌≡◌, ◌∙◌, ◌≤◌, List, Some, sym, subst}
use Rattle.std.specs.Prelude.{All}
use Rattle.taxi_base.specs.declared.rows.Step.{Step}
use Rattle.taxi_base.specs.State.{holds_in, without}
use Rattle.replies.specs.Sought.{UnderWay}
use Rattle.held_spans.specs.Spans.{AreSpansOf}
use Rattle.checked_state.specs.Flights.{state_of}
use Rattle.checked_state.proofs.FlightLaws.{copied-flight, spans-alone}
use Rattle.due_refusals.proofs.HeldLaws.{known-own, own-known}
use Rattle.certificate_check.proofs.JudgedLaws.{answered-by}
use Rattle.certificate_check.proofs.AgainLaws.{flight-early, among-spans}
use Rattle.certificate_check.proofs.again.no_route_among.Goals as goal

pub check_no_route-requires-clause-early : goal.check_no_route-requires-clause-early
check_no_route-requires-clause-early c way is =
    let airport = c.args.airport.now in
    let state = state_of c.args.held.now in
    let f = c.unwrap-flight.result.now in
    let found = sym c.flight.ensures ∙ copied-flight c.flight.result c.unwrap-flight.result c.unwrap-flight.ensures in
    let steps : way.steps ≡ f.steps = sym (same-steps is) ∙ c.as_slice.ensures in
    subst (λ (steps : List Step). All (λ (step : Step). step.enter ≤ 9999999) steps) (sym steps) (flight-early airport state c.horizon.ensures.rules c.requires.sound c.args.anew.now.name.now f found)
  where
    same-steps : {v w : UnderWay} → Some v ≡ Some w → v.steps ≡ w.steps
    same-steps e = cc

pub check_no_route-requires-clause-known : goal.check_no_route-requires-clause-known
check_no_route-requires-clause-known c =
    let airport = c.args.airport.now in
    let left = without c.args.anew.now.name.now (state_of c.args.held.now) in
    let has = subst (AreSpansOf (holds_in airport left)) (sym c.spans.ensures) (spans-alone _ _ _ c.requires.spans) in
    known-own airport left c.spans.result.now has c.args.known.now c.requires.known

pub returns-in_err-broken-clause-known : goal.returns-in_err-broken-clause-known
returns-in_err-broken-clause-known c =
    let airport = c.args.airport.now in
    let left = without c.args.anew.now.name.now (state_of c.args.held.now) in
    let has = subst (AreSpansOf (holds_in airport left)) (sym c.spans.ensures) (spans-alone _ _ _ c.requires.spans) in
    own-known airport left c.spans.result.now has c.check_no_route.new.known c.check_no_route.ensures.known

pub returns-clause-known : goal.returns-clause-known
returns-clause-known c =
    let airport = c.args.airport.now in
    let left = without c.args.anew.now.name.now (state_of c.args.held.now) in
    let has = subst (AreSpansOf (holds_in airport left)) (sym c.spans.ensures) (spans-alone _ _ _ c.requires.spans) in
    own-known airport left c.spans.result.now has c.check_no_route.new.known c.check_no_route.ensures.known

pub returns-clause-found : goal.returns-clause-found
returns-clause-found c flight there s seeks =
    let airport = c.args.airport.now in
    let state = state_of c.args.held.now in
    let anew = c.args.anew.now in
    let name = anew.name.now in
    let f = c.unwrap-flight.result.now in
    let found = sym c.flight.ensures ∙ copied-flight c.flight.result c.unwrap-flight.result c.unwrap-flight.ensures in
    let has = subst (AreSpansOf (holds_in airport (without name state))) (sym c.spans.ensures) (spans-alone _ _ _ c.requires.spans) in
    let here = among-spans airport state name f found c.spans.result.now has c.as_slice.result.now c.as_slice.ensures anew.time anew.request flight there s seeks in
    answered-by _ c.in_ok-broken.broken c.pass_unless.result (sym c.pass_unless.ensures) (c.in_ok-broken.ensures.first s here)
