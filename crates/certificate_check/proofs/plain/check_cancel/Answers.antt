use Rattle.std.proofs.Common.{◌≡◌, ◌∙◌, All, length, List, ap, sym, subst}
use Rattle.taxi_base.specs.declared.answers.Flight.{Flight}
use Rattle.taxi_base.specs.declared.rows.Step.{Step}
use Rattle.taxi_base.specs.Airport.{clearance_of}
use Rattle.taxi_base.specs.State.{State, holds_in, flight_holds, without, IsSound}
use Rattle.taxi_base.specs.Windows.{holds_of}
use Rattle.taxi_base.specs.Walks.{free_among}
use Rattle.taxi_base.proofs.StateLaws.{IsSound-without}
use Rattle.held_spans.specs.declared.spans.HeldSpans.{HeldSpans}
use Rattle.held_spans.specs.Spans.{AreSpansOf, holds_in_lists}
use Rattle.check_rows.specs.Known.{AreKnown, HaveMore}
use Rattle.checked_state.specs.Flights.{state_of}
use Rattle.due_refusals.proofs.HeldLaws.{more-without, own-known}
use Rattle.checked_state.proofs.FlightLaws.{copied-flight, spans-alone}
use Rattle.certificate_check.proofs.DeskLaws.{flight-arcs, flight-alone}
use Rattle.certificate_check.specs.Desk.{CanGoOn}
use Rattle.certificate_check.proofs.GoOnLaws.{go_on-without}
use Rattle.certificate_check.proofs.GivenBack.{more-beside}
use Rattle.certificate_check.proofs.plain.check_cancel.Goals as goal

pub take_out-gone-requires-clause-alone : goal.take_out-gone-requires-clause-alone
take_out-gone-requires-clause-alone c =
    let found = sym c.flight.ensures ∙ copied-flight c.flight.result c.in-Some.flight c.in-Some.is in
    flight-alone c.args.airport.now (state_of c.args.held.now) c.requires.is_sound c.args.name.now c.in-Some.flight.now found

pub give_back-requires-clause-arcs : goal.give_back-requires-clause-arcs
give_back-requires-clause-arcs c =
    rw c.as_slice.ensures (flight-arcs c.args.airport.now (state_of c.args.held.now) c.requires.is_sound c.args.name.now c.take_out-gone.result c.take_out-gone.ensures.flight)

pub give_back-requires-clause-known : goal.give_back-requires-clause-known
give_back-requires-clause-known c = (holds_in c.args.airport.now (state_of c.args.held.now), c.requires.are_known)

pub returns-clause-ready : goal.returns-clause-ready
returns-clause-ready c =
    let airport = c.args.airport.now in
    let state = state_of c.args.held.now in
    let name = c.args.name.now in
    let gone = c.take_out-gone.result in
    let found = c.take_out-gone.ensures.flight in
    let same : c.in-Some.flight.now ≡ gone = cc (sym (sym c.flight.ensures ∙ copied-flight c.flight.result c.in-Some.flight c.in-Some.is) ∙ found) in
    let clearance : c.clearance-clearance.result ≡ clearance_of airport gone.class = c.clearance-clearance.ensures.clearance ∙ ap (λ (f : Flight). clearance_of airport f.class) same in
    let spans : HeldSpans = c.spans.result.now in
    let now : AreSpansOf (holds_in airport (state_of c.take_out-gone.new.self)) spans = subst (AreSpansOf (holds_in airport (state_of c.take_out-gone.new.self))) (sym c.spans.ensures) (spans-alone _ _ _ c.take_out-gone.ensures.spans) in
    let has : AreSpansOf (holds_in airport (without name state)) spans = subst (λ (s : State). AreSpansOf (holds_in airport s) spans) c.take_out-gone.ensures.state now in
    let more : HaveMore (flight_holds airport gone) (holds_in_lists spans) (holds_in airport state) =
    more-beside (flight_holds airport gone) (holds_in airport (without name state)) (holds_in airport state) spans has
    (more-without airport gone state name c.requires.is_sound.feasible.ordered (flight-alone airport state c.requires.is_sound name gone found) found) in
    let its = subst (λ n. HaveMore (holds_of airport.horizon n gone.steps) (holds_in_lists spans) (holds_in airport state)) (sym clearance) more in
    let told = subst (λ (steps : List Step). HaveMore (holds_of airport.horizon c.clearance-clearance.result steps) (holds_in_lists spans) (holds_in airport state)) (sym c.as_slice.ensures) its in
    let known = own-known airport (without name state) spans has c.give_back.new.self (c.give_back.ensures (holds_in airport state) told c.requires.are_known) in
    record {
      is_sound = subst (IsSound airport) (sym c.take_out-gone.ensures.state) (IsSound-without airport name state c.requires.is_sound);
      has_spans = c.take_out-gone.ensures.spans;
      can_go_on = subst (λ (s : State). All (λ f. CanGoOn airport f.request) s.flights) (sym c.take_out-gone.ensures.state) (go_on-without airport name state.flights c.requires.can_go_on);
      are_known = subst (λ (s : State). AreKnown (length airport.segments) (free_among airport (holds_in airport s)) c.give_back.new.self) (sym c.take_out-gone.ensures.state) known;
    }
