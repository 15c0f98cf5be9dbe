use Rattle.std.proofs.Common.{◌≡◌, List, All, IsTrue, sym, subst}
use Rattle.taxi_base.specs.declared.rows.Step.{Step}
use Rattle.taxi_base.specs.Airport.{clearance_of, layout_of, arc_exists}
use Rattle.taxi_base.specs.Windows.{holds_of}
use Rattle.taxi_base.specs.State.{State, holds_in, with_flight}
use Rattle.check_rows.specs.Known.{HaveMore}
use Rattle.checked_state.specs.Flights.{state_of}
use Rattle.due_refusals.specs.KnownIn.{AreKnownIn}
use Rattle.due_refusals.proofs.HeldLaws.{more-with}
use Rattle.certificate_check.specs.Desk.{CanGoOn, IsTidy}
use Rattle.certificate_check.proofs.LateTurn.{with-all, ok-then}
use Rattle.certificate_check.proofs.late_moves.put_in.Goals as goal

pub cut-requires-clause-arcs : goal.cut-requires-clause-arcs
cut-requires-clause-arcs c = rw c.as_slice.ensures c.requires.arcs

pub cut-requires-clause-known : goal.cut-requires-clause-known
cut-requires-clause-known c = (holds_in c.args.airport.now (state_of c.args.held.now), c.requires.tidy.are_known)

pub returns-clause-tidy : goal.returns-clause-tidy
returns-clause-tidy c = ok-then c.put_in.result _ (IsTidy c.args.airport.now c.put_in.new.self c.cut.new.self) c.put_in.ensures.ok tidy where
  tidy : state_of c.put_in.new.self ≡ with_flight c.args.flight (state_of c.args.held.now) → IsTidy c.args.airport.now c.put_in.new.self c.cut.new.self
  tidy is =
      let airport = c.args.airport.now in
      let state = state_of c.args.held.now in
      let flight = c.args.flight in
      let more = subst (λ (l : List Step). HaveMore (holds_of airport.horizon (clearance_of airport flight.class) l) (holds_in airport state) (holds_in airport (with_flight flight state))) (sym c.as_slice.ensures) (more-with airport flight state) in
      let known = c.cut.ensures (holds_in airport state) (holds_in airport (with_flight flight state))
      (subst (λ n. HaveMore (holds_of airport.horizon n c.as_slice.result.now) (holds_in airport state) (holds_in airport (with_flight flight state))) (sym c.clearance-clearance.ensures.clearance) more)
      c.requires.tidy.are_known in
      record {
        has_spans = c.put_in.ensures.spans;
        on_arcs = subst (λ (s : State). All (λ f. All (λ step. IsTrue (arc_exists (layout_of airport) step.arc)) f.steps) s.flights) (sym is)
            (with-all (λ f. All (λ step. IsTrue (arc_exists (layout_of airport) step.arc)) f.steps) flight state.flights c.requires.arcs c.requires.tidy.on_arcs);
        can_go_on = subst (λ (s : State). All (λ f. CanGoOn airport f.request) s.flights) (sym is)
            (with-all (λ f. CanGoOn airport f.request) flight state.flights c.requires.goes_on c.requires.tidy.can_go_on);
        are_known = subst (λ (s : State). AreKnownIn airport s c.cut.new.self) (sym is) known;
      }
