use Rattle.std.proofs.Common.{sym, subst}
use Rattle.taxi_base.specs.State.{holds_in}
use Rattle.held_spans.specs.Spans.{AreSpansOf}
use Rattle.checked_state.specs.Flights.{state_of}
use Rattle.checked_state.proofs.FlightLaws.{spans-alone}
use Rattle.due_refusals.proofs.HeldLaws.{known-own}
use Rattle.certificate_check.proofs.JudgedLaws.{answered-by}
use Rattle.certificate_check.proofs.NewLaws.{among-spans}
use Rattle.certificate_check.proofs.RoutedLaws.{ready-still}
use Rattle.certificate_check.proofs.routed.no_route_among.Goals as goal

pub check_no_route_to_any-requires-clause-known : goal.check_no_route_to_any-requires-clause-known
check_no_route_to_any-requires-clause-known c =
    let airport = c.args.airport.now in
    let state = state_of c.args.held.now in
    let has = subst (AreSpansOf (holds_in airport state)) (sym c.spans.ensures) (spans-alone _ _ _ c.requires.ready.has_spans) in
    known-own airport state c.spans.result.now has c.args.known.now c.requires.ready.are_known

pub returns-in_err-broken-clause-ready : goal.returns-in_err-broken-clause-ready
returns-in_err-broken-clause-ready c =
    let airport = c.args.airport.now in
    let has = subst (AreSpansOf (holds_in airport (state_of c.args.held.now))) (sym c.spans.ensures) (spans-alone _ _ _ c.requires.ready.has_spans) in
    ready-still airport c.args.held.now c.args.known.now c.check_no_route_to_any.new.known c.requires.ready c.spans.result.now has c.check_no_route_to_any.ensures.known

pub returns-clause-ready : goal.returns-clause-ready
returns-clause-ready c =
    let airport = c.args.airport.now in
    let has = subst (AreSpansOf (holds_in airport (state_of c.args.held.now))) (sym c.spans.ensures) (spans-alone _ _ _ c.requires.ready.has_spans) in
    ready-still airport c.args.held.now c.args.known.now c.check_no_route_to_any.new.known c.requires.ready c.spans.result.now has c.check_no_route_to_any.ensures.known

pub returns-clause-found : goal.returns-clause-found
returns-clause-found c s new =
    let airport = c.args.airport.now in
    let state = state_of c.args.held.now in
    let has = subst (AreSpansOf (holds_in airport state)) (sym c.spans.ensures) (spans-alone _ _ _ c.requires.ready.has_spans) in
    let seeks = among-spans airport state c.args.wish.now c.args.nodes.now s new c.spans.result.now has in
    answered-by _ c.in_ok-broken.broken c.pass_unless.result (sym c.pass_unless.ensures) (c.in_ok-broken.ensures.first s.others new.among s seeks)
