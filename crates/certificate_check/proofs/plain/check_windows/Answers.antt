use Rattle.std.proofs.Common.{sym, subst, ◌∙◌}
use Rattle.taxi_base.specs.State.{holds_in}
use Rattle.replies.proofs.WindowsTold.{segment_named-exists}
use Rattle.held_spans.specs.Spans.{AreSpansOf}
use Rattle.checked_state.specs.Flights.{state_of}
use Rattle.checked_state.proofs.FlightLaws.{spans-alone}
use Rattle.due_refusals.proofs.HeldLaws.{known-own, own-known}
use Rattle.certificate_check.proofs.DeskLaws.{windows-known, windows-judged}
use Rattle.certificate_check.proofs.plain.check_windows.Goals as goal

pub make-requires-clause-on : goal.make-requires-clause-on
make-requires-clause-on c = segment_named-exists c.args.airport.now c.args.name.now c.in-Some.segment (sym c.segment_named.ensures ∙ c.in-Some.is)

pub make-requires-clause-known : goal.make-requires-clause-known
make-requires-clause-known c =
    let airport = c.args.airport.now in
    let state = state_of c.args.held.now in
    let has = subst (AreSpansOf (holds_in airport state)) (sym c.spans.ensures) (spans-alone _ _ _ c.requires.has_spans) in
    known-own airport state c.spans.result.now has c.args.known.now c.requires.are_known

pub returns-in_err-make-clause-ready : goal.returns-in_err-make-clause-ready
returns-in_err-make-clause-ready c =
    let airport = c.args.airport.now in
    let state = state_of c.args.held.now in
    let has = subst (AreSpansOf (holds_in airport state)) (sym c.spans.ensures) (spans-alone _ _ _ c.requires.has_spans) in
    record { is_sound = c.requires.is_sound; has_spans = c.requires.has_spans; can_go_on = c.requires.can_go_on; are_known = own-known airport state c.spans.result.now has c.make.new.self c.make.ensures.known }

pub returns-clause-ready : goal.returns-clause-ready
returns-clause-ready c =
    let airport = c.args.airport.now in
    let state = state_of c.args.held.now in
    let has = subst (AreSpansOf (holds_in airport state)) (sym c.spans.ensures) (spans-alone _ _ _ c.requires.has_spans) in
    record { is_sound = c.requires.is_sound; has_spans = c.requires.has_spans; can_go_on = c.requires.can_go_on; are_known = own-known airport state c.spans.result.now has c.make.new.self c.make.ensures.known }

pub returns-clause-judged : goal.returns-clause-judged
returns-clause-judged c =
    let airport = c.args.airport.now in
    let state = state_of c.args.held.now in
    let has = subst (AreSpansOf (holds_in airport state)) (sym c.spans.ensures) (spans-alone _ _ _ c.requires.has_spans) in
    let segment = c.in-Some.segment in
    let named = sym c.segment_named.ensures ∙ c.in-Some.is in
    let are = c.of.ensures _ _ (own-known airport state c.spans.result.now has c.make.new.self c.make.ensures.known) in
    rw c.pass_if-2.ensures
    (windows-judged airport state c.args.name.now segment c.args.block.now c.of.result.now named
    (windows-known airport state segment c.of.result.now (segment_named-exists airport c.args.name.now segment named) are) c.are_windows.result c.are_windows.ensures)
