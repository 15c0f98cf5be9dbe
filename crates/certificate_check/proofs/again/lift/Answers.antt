use Rattle.std.proofs.Common.{◌≡◌, ◌∙◌, List, Some, sym, subst}
use Rattle.taxi_base.specs.declared.rows.Step.{Step}
use Rattle.taxi_base.specs.State.{State, holds_in, flight_holds, without, flight_named}
use Rattle.taxi_base.specs.Windows.{holds_of}
use Rattle.held_spans.specs.declared.spans.HeldSpans.{HeldSpans}
use Rattle.held_spans.specs.Spans.{AreSpansOf, holds_in_lists}
use Rattle.check_rows.specs.Known.{HaveMore}
use Rattle.checked_state.specs.Flights.{state_of}
use Rattle.checked_state.proofs.FlightLaws.{copied-flight, spans-alone}
use Rattle.due_refusals.proofs.HeldLaws.{more-without, own-known}
use Rattle.certificate_check.proofs.DeskLaws.{flight-arcs, flight-alone}
use Rattle.certificate_check.proofs.AgainLaws.{force-alone}
use Rattle.certificate_check.proofs.GivenBack.{more-beside}
use Rattle.certificate_check.proofs.again.lift.Goals as goal

pub lift-requires-clause-alone : goal.lift-requires-clause-alone
lift-requires-clause-alone c =
    force-alone c.args.airport.now (state_of c.args.held.now) c.requires.ready.is_sound c.args.name.now c.requires.in_force

pub give_back-requires-clause-arcs : goal.give_back-requires-clause-arcs
give_back-requires-clause-arcs c =
    let state = state_of c.args.held.now in
    let name = c.args.name.now in
    let f = c.unwrap-flight.result.now in
    let looked = sym c.flight.ensures ∙ copied-flight c.flight.result c.unwrap-flight.result c.unwrap-flight.ensures in
    let found = subst (λ (s : State). flight_named name s.flights ≡ Some f) c.lift.ensures.state looked in
    rw c.as_slice.ensures (flight-arcs c.args.airport.now state c.requires.ready.is_sound name f found)

pub give_back-requires-clause-known : goal.give_back-requires-clause-known
give_back-requires-clause-known c = (holds_in c.args.airport.now (state_of c.args.held.now), c.requires.ready.are_known)

pub returns-clause-known : goal.returns-clause-known
returns-clause-known c =
    let airport = c.args.airport.now in
    let state = state_of c.args.held.now in
    let name = c.args.name.now in
    let f = c.unwrap-flight.result.now in
    let looked = sym c.flight.ensures ∙ copied-flight c.flight.result c.unwrap-flight.result c.unwrap-flight.ensures in
    let found = subst (λ (s : State). flight_named name s.flights ≡ Some f) c.lift.ensures.state looked in
    let spans : HeldSpans = c.spans.result.now in
    let has : AreSpansOf (holds_in airport (without name state)) spans = subst (AreSpansOf (holds_in airport (without name state))) (sym c.spans.ensures) (spans-alone _ _ _ c.lift.ensures.spans) in
    let more : HaveMore (flight_holds airport f) (holds_in_lists spans) (holds_in airport state) =
    more-beside (flight_holds airport f) (holds_in airport (without name state)) (holds_in airport state) spans has
    (more-without airport f state name c.requires.ready.is_sound.feasible.ordered (flight-alone airport state c.requires.ready.is_sound name f found) found) in
    let its = subst (λ n. HaveMore (holds_of airport.horizon n f.steps) (holds_in_lists spans) (holds_in airport state)) (sym c.clearance-clearance.ensures.clearance) more in
    let told = subst (λ (steps : List Step). HaveMore (holds_of airport.horizon c.clearance-clearance.result steps) (holds_in_lists spans) (holds_in airport state)) (sym c.as_slice.ensures) its in
    own-known airport (without name state) spans has c.give_back.new.self (c.give_back.ensures (holds_in airport state) told c.requires.ready.are_known)
