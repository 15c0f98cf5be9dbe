-- What a part of the engine has done for a route that is searched for. No public clause cites these.
use Rattle.std.specs.Prelude.{ℕ, ◌≡◌, ◌<◌, ◌⊎◌, false, List, Result, Ok}
use Rattle.taxi_base.specs.declared.rows.Step.{Step}
use Rattle.taxi_base.specs.declared.numbers.Class.{Class}
use Rattle.taxi_base.specs.declared.answers.Found.{Found}
use Rattle.taxi_base.specs.declared.answers.Request.{Request}
use Rattle.taxi_base.specs.declared.answers.Refusal.TheVariants as refusal
use Rattle.taxi_base.specs.declared.collections.Memory.{Memory}
use Rattle.taxi_base.specs.Airport.{Airport}
use Rattle.taxi_base.specs.Walks.{Conditions, IsFeasibleWalk}
use Rattle.taxi_base.specs.State.{State, holder_count, has_holder, with_flight}
use Rattle.replies.specs.CarriedOut.{Reply, found_reply, routed_flight}
use Rattle.replies.specs.Replies.{refused}
use Rattle.taxi_engine.specs.Engine.{EngineState}
use Rattle.taxi_engine.specs.Done.{IsDone}

-- no holder has the name, and there is room for one more
pub record IsNew (state : State) (name : List ℕ) : Type 0 where
  pub absent : has_holder name state ≡ false
  pub few : holder_count state < 4096

-- steps are a feasible walk on the airport, under some conditions
pub record IsWalkOn (airport : Airport) (steps : List Step) : Type 0 where
  pub conditions : Conditions
  pub here : conditions.airport ≡ airport
  pub walk : IsFeasibleWalk conditions steps

-- a reply is written, or memory ran out, which changed nothing else
abbrev pub IsToldOrMemory : Reply → EngineState → EngineState → Type 0
IsToldOrMemory reply old new = IsDone reply old new ⊎ IsDone (refused old.state refusal.Memory) old new

-- what was found for a request is told, and with a route its flight is in force
abbrev pub IsFoundTold : List ℕ → Class → Request → Result Found Memory → EngineState → EngineState → Type 0
IsFoundTold name class request found old new =
    ((answer : Found) × (found ≡ Ok answer) × IsDone (found_reply old.state name request (λ steps. with_flight (routed_flight name class request steps) old.state) answer) old new)
    ⊎ IsDone (refused old.state refusal.Memory) old new
