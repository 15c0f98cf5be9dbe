use Rattle.std.proofs.Common.{All, IsTrue, sym, subst}
use Rattle.taxi_base.specs.Airport.{layout_of, arc_exists}
use Rattle.taxi_base.specs.State.{State, holds_in, parties_without}
use Rattle.checked_state.specs.Flights.{state_of}
use Rattle.due_refusals.specs.KnownIn.{AreKnownIn}
use Rattle.due_refusals.proofs.HeldLaws.{differ-without_party}
use Rattle.certificate_check.specs.Desk.{CanGoOn}
use Rattle.certificate_check.proofs.late_base.open_if_met.Goals as goal

pub open-requires-clause-spans : goal.open-requires-clause-spans
open-requires-clause-spans c = (c.args.airport.now, c.requires.tidy.has_spans)

pub returns-clause-tidy : goal.returns-clause-tidy
returns-clause-tidy c =
    let airport = c.args.airport.now in
    let state = state_of c.args.held.now in
    let party = c.args.party.now in
    let after : State = record state { parties = parties_without party.name state.parties } in
    let is = c.open.ensures.state in
    record {
      has_spans = c.open.ensures.spans airport c.requires.tidy.has_spans;
      on_arcs = subst (λ (s : State). All (λ f. All (λ step. IsTrue (arc_exists (layout_of airport) step.arc)) f.steps) s.flights) (sym is) c.requires.tidy.on_arcs;
      can_go_on = subst (λ (s : State). All (λ f. CanGoOn airport f.request) s.flights) (sym is) c.requires.tidy.can_go_on;
      are_known = subst (λ (s : State). AreKnownIn airport s c.forget_segment.new.self) (sym is)
          (c.forget_segment.ensures (holds_in airport state) (holds_in airport after) (differ-without_party airport party state party.name c.args.held.now.parties.ordered c.requires.at_work) c.requires.tidy.are_known);
    }
