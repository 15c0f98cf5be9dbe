-- What is so of a flight that is to be routed anew, where nothing is refused.
use Rattle.std.proofs.Common.{◌≡◌, ℕ, ◌<◌, List, [], Option, Some, None, inl, inr}
use Rattle.std.specs.Prelude.{◌&&◌, nat_le}
use Rattle.std.proofs.lemmas.Bool.{cases_lt, le-leb}
use Rattle.taxi_base.specs.declared.answers.Flight.{Flight}
use Rattle.taxi_base.specs.declared.answers.Refusal.{Refusal}
use Rattle.taxi_base.specs.declared.answers.Refusal.TheVariants as refusal
use Rattle.taxi_base.specs.declared.answers.Request.{Request}
use Rattle.taxi_base.specs.declared.answers.Request.TheVariants as request
use Rattle.taxi_base.specs.Airport.{Airport}
use Rattle.taxi_base.specs.Walks.{begin_of, end_of}
use Rattle.taxi_base.specs.State.{State, flight_named}
use Rattle.taxi_base.specs.Again.{MayGoAgain}
use Rattle.taxi_text.specs.declared.command.Command.TheVariants as command
use Rattle.replies.specs.Refusals.{refused_if, of_flight, not_routed, not_arrival, already_done, already_moving, unknown_node, no_stand, not_in_force, is_filed, is_departure, first_refusal}
use Rattle.replies.proofs.RefusalLaws.{none-first, none-others}

module _ (airport : Airport) (state : State) (name : List ℕ) (time : ℕ) (flight : Flight) (known : flight_named name state.flights ≡ Some flight) where
  pub of-flight : (test : Flight → Option Refusal) → of_flight state name test ≡ None → test flight ≡ None
  of-flight test e = rw known at e

  pub not_done : already_done time flight ≡ None → time < end_of flight.steps
  not_done e =
      elim (cases_lt time (end_of flight.steps)) [
        | inl before ↦ before
        | inr after ↦ absurd (cc (rw (le-leb (end_of flight.steps) time after) at e))
      ]

  not_moving : refused_if (nat_le (begin_of flight.steps) time) (refusal.AlreadyMoving (begin_of flight.steps)) ≡ None → time < begin_of flight.steps
  not_moving e =
      elim (cases_lt time (begin_of flight.steps)) [
        | inl before ↦ before
        | inr after ↦ absurd (cc (rw (le-leb (begin_of flight.steps) time after) at e))
      ]

  may_go : (r : Request) → refused_if (is_filed r) refusal.NotRouted ≡ None → time < end_of flight.steps
      → refused_if (is_departure r && nat_le (begin_of flight.steps) time) (refusal.AlreadyMoving (begin_of flight.steps)) ≡ None → MayGoAgain time r flight.steps
  may_go request.Filed routed before moving = absurd (cc routed)
  may_go (request.Arrival from to asked hold) routed before moving = before
  may_go (request.Departure from to asked queue) routed before moving = not_moving moving

  -- a flight that is to be rerouted may be: it has not ended, and a departure has not begun
  pub reroute-may : first_refusal airport state (command.Reroute name time) ≡ None → MayGoAgain time flight.request flight.steps
  reroute-may e =
      let after_force = none-others (not_in_force state name) _ e in
      let after_routed = none-others (of_flight state name not_routed) _ after_force in
      let after_done = none-others (of_flight state name (already_done time)) _ after_routed in
      may_go flight.request (of-flight not_routed (none-first (of_flight state name not_routed) _ after_force))
      (not_done (of-flight (already_done time) (none-first (of_flight state name (already_done time)) _ after_routed)))
      (of-flight (already_moving time) (none-first (of_flight state name (already_moving time)) [] after_done))

  -- a flight that is to be diverted has not ended
  pub divert-before : (node : List ℕ) → first_refusal airport state (command.Divert name time node) ≡ None → time < end_of flight.steps
  divert-before node e =
      not_done (of-flight (already_done time) (none-first (of_flight state name (already_done time)) []
      (none-others (of_flight state name not_arrival) _ (none-others (of_flight state name not_routed) _ (none-others (not_in_force state name) _
      (none-others (no_stand airport node) _ (none-others (unknown_node airport node) _ e)))))))
