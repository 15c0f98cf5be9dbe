-- Routes that are told, and the state with them.
use Rattle.std.proofs.Common.{◌≡◌, ℕ, ◌⊎◌, inl, inr, List, length, None, IsTrue, sym, subst}
use Rattle.std.specs.Prelude.{Result, Ok, Err, OnOk, OnErr, All}
use Rattle.taxi_base.specs.declared.rows.Step.{Step as Leg}
use Rattle.taxi_base.specs.declared.rows.LabelRow.{LabelRow}
use Rattle.taxi_base.specs.Airport.{Airport, layout_of, arc_exists}
use Rattle.taxi_base.specs.Walks.{Conditions, IsFeasibleWalk, free_among}
use Rattle.taxi_base.specs.State.{State, holds_in, IsSound}
use Rattle.taxi_base.proofs.WalkLaws.{IsFeasibleWalk-steps}
use Rattle.replies.specs.declared.block.Block.TheVariants.{Route}
use Rattle.replies.specs.declared.rule.Rule.TheVariants as rule
use Rattle.replies.specs.Sought.{Sought, IsWalkFor}
use Rattle.replies.specs.Passes.{KeepsSought, IsFirstOf}
use Rattle.held_spans.specs.declared.spans.HeldSpans.{HeldSpans}
use Rattle.held_spans.specs.Spans.{AreSpansOf, holds_in_lists}
use Rattle.check_rows.specs.declared.known.KnownWindows.{KnownWindows}
use Rattle.check_rows.specs.Known.{AreKnown}
use Rattle.checked_state.specs.declared.flights.HeldFlights.{HeldFlights}
use Rattle.checked_state.specs.Flights.{state_of, HasSpansOf}
use Rattle.due_refusals.specs.KnownIn.{AreKnownIn}
use Rattle.due_refusals.proofs.HeldLaws.{own-known}
use Rattle.certificate_check.specs.Desk.{CanGoOn, IsReady}

pub walk-arcs : (c : Conditions) (steps : List Leg) → IsFeasibleWalk c steps → All (λ step. IsTrue (arc_exists (layout_of c.airport) step.arc)) steps
walk-arcs c steps walk k d low = (IsFeasibleWalk-steps c steps walk k d low).on_arc

-- a call did what it says, or nothing
pub either-way : {A E : Type 0} (r : Result A E) (P Q : Type 0) → OnOk r P → OnErr r Q → P ⊎ Q
either-way (Ok x) P Q did not_done = inl did
either-way (Err e) P Q did not_done = inr not_done

-- the parts are in order where they are right for a state
pub ready-by : (airport : Airport) (held : HeldFlights) (known : KnownWindows) (state : State) → state_of held ≡ state → IsSound airport state → All (λ f. CanGoOn airport f.request) state.flights → AreKnownIn airport state known
    → HasSpansOf airport (state_of held) held → IsReady airport held known
ready-by airport held known state is sound go_on are_known spans = record {
  is_sound = subst (IsSound airport) (sym is) sound;
  has_spans = spans;
  can_go_on = subst (λ (s : State). All (λ f. CanGoOn airport f.request) s.flights) (sym is) go_on;
  are_known = subst (λ (s : State). AreKnownIn airport s known) (sym is) are_known;
}

-- and where only windows are found that were not known
pub ready-still : (airport : Airport) (held : HeldFlights) (known found : KnownWindows) → IsReady airport held known → (spans : HeldSpans) → AreSpansOf (holds_in airport (state_of held)) spans
    → AreKnown (length airport.segments) (free_among airport (holds_in_lists spans)) found → IsReady airport held found
ready-still airport held known found ready spans has are = record {
  is_sound = ready.is_sound;
  has_spans = ready.has_spans;
  can_go_on = ready.can_go_on;
  are_known = own-known airport (state_of held) spans has found are;
}

-- ---- what is told

-- the walk of a route that breaks no rule after the form
pub told-walk : (s : Sought) (name : List ℕ) (second : ℕ) (steps : List Leg) (labels : List LabelRow) → IsFirstOf (λ r. KeepsSought r s (Route name second steps labels)) None → IsWalkFor s steps
told-walk s name second steps labels all = (all rule.Walk).0
