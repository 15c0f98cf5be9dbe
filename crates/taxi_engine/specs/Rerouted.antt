-- What a part of the engine has done for a flight in force that is routed anew. No public clause cites these.
use Rattle.std.specs.Prelude.{ℕ, ◌≡◌, ◌⊎◌, List, Option, Some, MatchOption}
use Rattle.std.specs.Option.{option_map_or}
use Rattle.taxi_base.specs.declared.numbers.Node.{Node}
use Rattle.taxi_base.specs.declared.answers.Flight.{Flight}
use Rattle.taxi_base.specs.declared.answers.Found.{Found}
use Rattle.taxi_base.specs.declared.answers.Request.{Request}
use Rattle.taxi_base.specs.declared.answers.Refusal.{Refusal}
use Rattle.taxi_base.specs.declared.answers.Refusal.TheVariants as refusal
use Rattle.taxi_base.specs.Airport.{Airport}
use Rattle.taxi_base.specs.Walks.{Meets}
use Rattle.taxi_base.specs.State.{State, flight_named, with_route, conditions_of}
use Rattle.taxi_base.specs.Again.{retargeted, AnswersAgain}
use Rattle.replies.specs.CarriedOut.{found_reply}
use Rattle.replies.specs.Replies.{refused}
use Rattle.reroute.specs.declared.refused.RerouteRefused.{RerouteRefused}
use Rattle.reroute.specs.declared.refused.RerouteRefused.TheVariants as reroute
use Rattle.reroute.specs.Refused.{again_refusal}
use Rattle.reroute.specs.Anew.{IsMeant}
use Rattle.taxi_engine.specs.Engine.{EngineState}
use Rattle.taxi_engine.specs.Done.{IsDone}

-- the refusal that is told
abbrev pub refusal_told : RerouteRefused → Refusal
refusal_told reroute.NotInForce = refusal.NotInForce
refusal_told reroute.NotRouted = refusal.NotRouted
refusal_told reroute.NotArrival = refusal.NotArrival
refusal_told (reroute.AlreadyDone end) = refusal.AlreadyDone end
refusal_told (reroute.AlreadyMoving start) = refusal.AlreadyMoving start
refusal_told reroute.Memory = refusal.Memory

-- the request, for another node to reach where there is one
abbrev pub request_to : Option Node → Request → Request
request_to to request = option_map_or (retargeted request) to request

-- a flight in force as it is on another route: it has the same class, and the route does what it asks for among the others
pub record IsOnAnother (airport : Airport) (state : State) (flight : Flight) : Type 0 where
  pub old : Flight
  pub in_force : flight_named flight.name state.flights ≡ Some old
  pub class : flight.class ≡ old.class
  pub met : Meets (conditions_of airport state old) flight.request flight.steps

-- what was found for the flight of a name is told, and with a route it has it
pub record IsFoundAgainTold (name : List ℕ) (time : ℕ) (to : Option Node) (old new : EngineState) : Type 0 where
  pub flight : Flight
  pub target : Node
  pub in_force : flight_named name old.state.flights ≡ Some flight
  pub meant : IsMeant to flight.request target
  pub found : Found
  pub answers : AnswersAgain (conditions_of old.airport old.state flight) flight.steps time target flight.request found
  pub done : IsDone (found_reply old.state name flight.request (λ steps. with_route flight (retargeted flight.request target) steps old.state) found) old new

-- the flight of a name is refused, or what was found for it is told, or memory ran out
abbrev pub IsToldAgain : List ℕ → ℕ → Option Node → EngineState → EngineState → Type 0
IsToldAgain name time to old new =
    MatchOption (again_refusal old.state.flights name time to)
    (IsFoundAgainTold name time to old new ⊎ IsDone (refused old.state refusal.Memory) old new)
    (λ why. IsDone (refused old.state (refusal_told why)) old new)
