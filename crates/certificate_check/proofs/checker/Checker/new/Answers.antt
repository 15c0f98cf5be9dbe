use Rattle.std.proofs.Common.{All, sym, subst, arith}
use Rattle.taxi_base.specs.State.{State, holds_in, IsSound}
use Rattle.taxi_base.specs.Walks.{free_among}
use Rattle.taxi_base.proofs.StateLaws.{IsSound-nil}
use Rattle.checked_state.specs.Flights.{state_of, HasSpansOf}
use Rattle.certificate_check.specs.Desk.{CanGoOn}
use Rattle.certificate_check.proofs.checker.Checker.new.Goals as goal

pub invariant_of-result : goal.invariant_of-result
invariant_of-result c =
    let airport = c.args.airport.now in
    let none = sym c.in_ok-held.ensures.none in
    record {
      is_sound = subst (λ (state : State). IsSound airport state) none (IsSound-nil airport);
      has_spans = subst (λ (state : State). HasSpansOf airport state c.in_ok-held.held) none c.in_ok-held.ensures.spans;
      can_go_on = subst (λ (state : State). All (λ f. CanGoOn airport f.request) state.flights) none (λ k d low. absurd (omega arith));
      are_known = c.in_ok-known.ensures (free_among airport (holds_in airport (state_of c.in_ok-held.held)));
    }
