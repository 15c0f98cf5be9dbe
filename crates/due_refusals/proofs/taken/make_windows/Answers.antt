use Rattle.std.proofs.Common.{sym, subst}
use Rattle.taxi_base.specs.State.{holds_in}
use Rattle.held_spans.specs.Spans.{AreSpansOf}
use Rattle.checked_state.specs.Flights.{state_of}
use Rattle.checked_state.proofs.FlightLaws.{spans-alone}
use Rattle.due_refusals.proofs.HeldLaws.{known-own, own-known}
use Rattle.due_refusals.proofs.taken.make_windows.Goals as goal

pub make-requires-clause-known : goal.make-requires-clause-known
make-requires-clause-known c =
    let airport = c.args.airport.now in
    let state = state_of c.args.held.now in
    let has = subst (AreSpansOf (holds_in airport state)) (sym c.spans.ensures) (spans-alone _ _ _ c.requires.spans) in
    known-own airport state c.spans.result.now has c.args.known.now c.requires.known

pub returns-clause-known : goal.returns-clause-known
returns-clause-known c =
    let airport = c.args.airport.now in
    let state = state_of c.args.held.now in
    let has = subst (AreSpansOf (holds_in airport state)) (sym c.spans.ensures) (spans-alone _ _ _ c.requires.spans) in
    own-known airport state c.spans.result.now has c.make.new.self c.make.ensures.known
