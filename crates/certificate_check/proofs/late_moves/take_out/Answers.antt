use Rattle.std.proofs.Common.{◌∙◌, not, List, All, IsTrue, sym, ap, subst}
use Rattle.std.proofs.lemmas.List.Elements.{All-contains}
use Rattle.taxi_base.specs.declared.rows.Step.{Step}
use Rattle.taxi_base.specs.declared.answers.Flight.{Flight}
use Rattle.taxi_base.specs.declared.answers.Party.{Party}
use Rattle.taxi_base.specs.Airport.{layout_of, arc_exists}
use Rattle.taxi_base.specs.Windows.{holds_of}
use Rattle.taxi_base.specs.State.{State, holds_in, flight_holds, without}
use Rattle.taxi_base.proofs.OtherHolds.{named-there}
use Rattle.held_spans.specs.declared.spans.HeldSpans.{HeldSpans}
use Rattle.held_spans.specs.Spans.{AreSpansOf, holds_in_lists}
use Rattle.check_rows.specs.Known.{HaveMore}
use Rattle.checked_state.specs.Flights.{state_of}
use Rattle.checked_state.proofs.FlightLaws.{spans-alone}
use Rattle.checked_state.proofs.PlaceLaws.{left-none}
use Rattle.due_refusals.specs.KnownIn.{AreKnownIn}
use Rattle.due_refusals.proofs.HeldLaws.{more-without, own-known}
use Rattle.certificate_check.specs.Desk.{CanGoOn}
use Rattle.certificate_check.proofs.GivenBack.{more-beside}
use Rattle.certificate_check.proofs.LateTurn.{nobody-out, copied-none, without-all}
use Rattle.certificate_check.proofs.late_moves.take_out.Goals as goal

pub give_back-requires-clause-arcs : goal.give_back-requires-clause-arcs
give_back-requires-clause-arcs c =
    let state = state_of c.args.held.now in
    let gone = c.take_out-gone.result in
    let there = named-there (λ (f : Flight). f.name) c.args.name.now state.flights gone c.take_out-gone.ensures.flight in
    rw c.as_slice.ensures (All-contains (λ f. All (λ step. IsTrue (arc_exists (layout_of c.args.airport.now) step.arc)) f.steps) state.flights gone c.requires.tidy.on_arcs there.0)

pub give_back-requires-clause-known : goal.give_back-requires-clause-known
give_back-requires-clause-known c = (holds_in c.args.airport.now (state_of c.args.held.now), c.requires.tidy.are_known)

pub returns-then-is_none-clause-state : goal.returns-then-is_none-clause-state
returns-then-is_none-clause-state c =
    let none = sym c.flight.ensures ∙ copied-none c.flight.result (c.is_none.ensures ∙ ap not c.if-is_none.true) in
    sym (nobody-out c.args.name.now (state_of c.args.held.now) c.requires.alone none)

pub returns-clause-parties : goal.returns-clause-parties
returns-clause-parties c =
    ap (λ (s : State). s.parties) c.take_out-gone.ensures.state ∙ left-none (λ (p : Party). p.name) c.args.name.now (state_of c.args.held.now).parties c.requires.alone

pub returns-clause-tidy : goal.returns-clause-tidy
returns-clause-tidy c =
    let airport = c.args.airport.now in
    let state = state_of c.args.held.now in
    let name = c.args.name.now in
    let gone = c.take_out-gone.result in
    let is = c.take_out-gone.ensures.state in
    let spans : HeldSpans = c.spans.result.now in
    let now : AreSpansOf (holds_in airport (state_of c.take_out-gone.new.self)) spans = subst (AreSpansOf (holds_in airport (state_of c.take_out-gone.new.self))) (sym c.spans.ensures) (spans-alone _ _ _ c.take_out-gone.ensures.spans) in
    let has : AreSpansOf (holds_in airport (without name state)) spans = subst (λ (s : State). AreSpansOf (holds_in airport s) spans) is now in
    let more : HaveMore (flight_holds airport gone) (holds_in_lists spans) (holds_in airport state) =
    more-beside (flight_holds airport gone) (holds_in airport (without name state)) (holds_in airport state) spans has
    (more-without airport gone state name c.args.held.now.flights.ordered c.requires.alone c.take_out-gone.ensures.flight) in
    let its = subst (λ n. HaveMore (holds_of airport.horizon n gone.steps) (holds_in_lists spans) (holds_in airport state)) (sym c.clearance-clearance.ensures.clearance) more in
    let told = subst (λ (steps : List Step). HaveMore (holds_of airport.horizon c.clearance-clearance.result steps) (holds_in_lists spans) (holds_in airport state)) (sym c.as_slice.ensures) its in
    record {
      has_spans = c.take_out-gone.ensures.spans;
      on_arcs = subst (λ (s : State). All (λ f. All (λ step. IsTrue (arc_exists (layout_of airport) step.arc)) f.steps) s.flights) (sym is)
          (without-all (λ f. All (λ step. IsTrue (arc_exists (layout_of airport) step.arc)) f.steps) name state.flights c.requires.tidy.on_arcs);
      can_go_on = subst (λ (s : State). All (λ f. CanGoOn airport f.request) s.flights) (sym is) (without-all (λ f. CanGoOn airport f.request) name state.flights c.requires.tidy.can_go_on);
      are_known = subst (λ (s : State). AreKnownIn airport s c.give_back.new.self) (sym is)
          (own-known airport (without name state) spans has c.give_back.new.self (c.give_back.ensures (holds_in airport state) told c.requires.tidy.are_known));
    }
