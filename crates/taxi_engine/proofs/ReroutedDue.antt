-- What is due to a flight in force that is routed anew, from what was told of it.
use Rattle.std.proofs.Common.{◌≡◌, ◌∙◌, ℕ, Bool, true, false, nat_le, if◌then◌else◌, List, [], ◌∷◌, Option, Some, None, is_some, refl, sym, ap, inl, inr}
use Rattle.std.specs.Prelude.{◌⊎◌, not, option_map, option_and_then, MatchOption}
use Rattle.std.specs.Option.{option_map_or}
use Rattle.taxi_base.specs.declared.numbers.Node.{Node}
use Rattle.taxi_base.specs.declared.answers.Request.{Request}
use Rattle.taxi_base.specs.declared.answers.Request.TheVariants as request
use Rattle.taxi_base.specs.declared.answers.Flight.{Flight}
use Rattle.taxi_base.specs.declared.answers.Refusal.TheVariants as refusal
use Rattle.taxi_base.specs.Airport.{Airport, node_named, is_stand, is_of_kind}
use Rattle.taxi_base.specs.Walks.{begin_of, end_of}
use Rattle.taxi_base.specs.State.{State, flight_named, with_route}
use Rattle.taxi_base.specs.Again.{retargeted}
use Rattle.taxi_text.specs.declared.command.Command.{Command}
use Rattle.taxi_text.specs.declared.command.Command.TheVariants as command
use Rattle.replies.specs.Refusals.{refused_if, first_of, not_routed, not_arrival, already_done, already_moving, first_refusal}
use Rattle.replies.specs.CarriedOut.{Reply, found_reply, IsCarriedOut}
use Rattle.replies.specs.Replies.{refused}
use Rattle.reroute.specs.declared.refused.RerouteRefused.{RerouteRefused}
use Rattle.reroute.specs.declared.refused.RerouteRefused.TheVariants as reroute
use Rattle.reroute.specs.Refused.{flight_refusal, again_refusal}
use Rattle.taxi_engine.specs.Engine.{EngineState, MayWantMemory}
use Rattle.taxi_engine.specs.Done.{IsDone, IsDoneOrMemory}
use Rattle.taxi_engine.specs.Rerouted.{refusal_told, IsFoundAgainTold, IsToldAgain}
use Rattle.taxi_engine.proofs.DueLaws.{refusal-due}

-- ---- the first refusal that is due is the one that is told

first-one : (test : Bool) (why : RerouteRefused) → first_of (refused_if test (refusal_told why) ∷ None ∷ []) ≡ option_map refusal_told (if test then Some why else None)
first-one true why = refl
first-one false why = refl

first-last : (test : Bool) (why : RerouteRefused) → first_of (refused_if test (refusal_told why) ∷ []) ≡ option_map refusal_told (if test then Some why else None)
first-last true why = refl
first-last false why = refl

first-two : (one two : Bool) (why other : RerouteRefused)
    → first_of (refused_if one (refusal_told why) ∷ refused_if two (refusal_told other) ∷ []) ≡ option_map refusal_told (if one then Some why else if two then Some other else None)
first-two true two why other = refl
first-two false true why other = refl
first-two false false why other = refl

module _ (airport : Airport) (state : State) (name : List ℕ) (time : ℕ) where
  pub reroute-refusal : first_refusal airport state (command.Reroute name time) ≡ option_map refusal_told (again_refusal state.flights name time None)
  reroute-refusal = of_found (flight_named name state.flights) where
    of_found : (o : Option Flight)
        → first_of (refused_if (not (is_some o)) refusal.NotInForce ∷ option_and_then not_routed o ∷ option_and_then (already_done time) o ∷ option_and_then (already_moving time) o ∷ [])
        ≡ option_map refusal_told (option_map_or (flight_refusal time false) o (Some reroute.NotInForce))
    of_found None = refl
    of_found (Some flight) = of_request flight.request where
      of_request : (r : Request)
          → first_of (None ∷ not_routed (record flight { request = r }) ∷ already_done time flight ∷ already_moving time (record flight { request = r }) ∷ [])
          ≡ option_map refusal_told (flight_refusal time false (record flight { request = r }))
      of_request request.Filed = refl
      of_request (request.Arrival from to asked hold) = first-one (nat_le (end_of flight.steps) time) (reroute.AlreadyDone (end_of flight.steps))
      of_request (request.Departure from to asked queue) =
          first-two (nat_le (end_of flight.steps) time) (nat_le (begin_of flight.steps) time) (reroute.AlreadyDone (end_of flight.steps)) (reroute.AlreadyMoving (begin_of flight.steps))

  pub divert-refusal : (node_name : List ℕ) (node : Node) → node_named airport node_name ≡ Some node → is_of_kind is_stand airport node ≡ true
      → first_refusal airport state (command.Divert name time node_name) ≡ option_map refusal_told (again_refusal state.flights name time (Some node))
  divert-refusal node_name node known stand = rw (known, stand) (of_found (flight_named name state.flights)) where
    of_found : (o : Option Flight)
        → first_of (refused_if (not (is_some o)) refusal.NotInForce ∷ option_and_then not_routed o ∷ option_and_then not_arrival o ∷ option_and_then (already_done time) o ∷ [])
        ≡ option_map refusal_told (option_map_or (flight_refusal time true) o (Some reroute.NotInForce))
    of_found None = refl
    of_found (Some flight) = of_request flight.request where
      of_request : (r : Request)
          → first_of (None ∷ not_routed (record flight { request = r }) ∷ not_arrival (record flight { request = r }) ∷ already_done time flight ∷ [])
          ≡ option_map refusal_told (flight_refusal time true (record flight { request = r }))
      of_request request.Filed = refl
      of_request (request.Arrival from to asked hold) = first-last (nat_le (end_of flight.steps) time) (reroute.AlreadyDone (end_of flight.steps))
      of_request (request.Departure from to asked queue) = refl

-- ---- what was told is due

module _ (old new : EngineState) (name : List ℕ) (time : ℕ) (to : Option Node) where
  abbrev told : IsFoundAgainTold name time to old new → Reply
  told t = found_reply old.state name t.flight.request (λ steps. with_route t.flight (retargeted t.flight.request t.target) steps old.state) t.found

  told-done : (c : Command) → first_refusal old.airport old.state c ≡ option_map refusal_told (again_refusal old.state.flights name time to)
      → ((t : IsFoundAgainTold name time to old new) → IsCarriedOut old.airport old.state c (told t).block (told t).after)
      → (first_refusal old.airport old.state c ≡ None → MayWantMemory old.airport old.state c) → IsToldAgain name time to old new → IsDoneOrMemory c old new
  told-done c first carried may is_told = go (again_refusal old.state.flights name time to) first is_told where
    go : (o : Option RerouteRefused) → first_refusal old.airport old.state c ≡ option_map refusal_told o
        → MatchOption o (IsFoundAgainTold name time to old new ⊎ IsDone (refused old.state refusal.Memory) old new) (λ why. IsDone (refused old.state (refusal_told why)) old new)
        → IsDoneOrMemory c old new
    go None none (inl t) = inl (record { reply = told t; due = rw none (carried t); done = t.done })
    go None none (inr memory) = inr (may none, memory)
    go (Some why) some done = inl (record { reply = refused old.state (refusal_told why); due = refusal-due old.airport old.state c (refusal_told why) some; done = done })

pub reroute-done : (old new : EngineState) (name : List ℕ) (time : ℕ) → IsToldAgain name time None old new → IsDoneOrMemory (command.Reroute name time) old new
reroute-done old new name time =
    told-done old new name time None (command.Reroute name time) (reroute-refusal old.airport old.state name time)
    (λ t. record { flight = t.flight; target = t.target; in_force = t.in_force; meant = t.meant; found = t.found; answers = t.answers; reply = (refl, refl) }) (λ none. none)

pub divert-done : (old new : EngineState) (name : List ℕ) (time : ℕ) (node_name : List ℕ) (node : Node) → node_named old.airport node_name ≡ Some node
    → is_of_kind is_stand old.airport node ≡ true → IsToldAgain name time (Some node) old new → IsDoneOrMemory (command.Divert name time node_name) old new
divert-done old new name time node_name node known stand =
    told-done old new name time (Some node) (command.Divert name time node_name) (divert-refusal old.airport old.state name time node_name node known stand)
    (λ t. record { flight = t.flight; target = t.target; in_force = t.in_force; meant = known ∙ ap Some (sym t.meant); found = t.found; answers = t.answers; reply = (refl, refl) }) (λ none. none)

-- ---- a divert that names no stand

module _ (airport : Airport) (state : State) (name : List ℕ) (time : ℕ) (node_name : List ℕ) where
  pub divert-unknown : node_named airport node_name ≡ None → first_refusal airport state (command.Divert name time node_name) ≡ Some refusal.UnknownNode
  divert-unknown unknown = rw unknown refl

  pub divert-no_stand : (node : Node) → node_named airport node_name ≡ Some node → is_of_kind is_stand airport node ≡ false
      → first_refusal airport state (command.Divert name time node_name) ≡ Some refusal.WrongKind
  divert-no_stand node known no_stand = rw (known, no_stand) refl
