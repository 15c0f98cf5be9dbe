-- What a part of the engine has done for a choice of nodes. No public clause cites these.
use Rattle.std.specs.Prelude.{ℕ, ◌≡◌, ◌⊎◌, List, Result, Ok}
use Rattle.taxi_base.specs.declared.numbers.Class.{Class}
use Rattle.taxi_base.specs.declared.answers.Chosen.{Chosen}
use Rattle.taxi_base.specs.declared.answers.Refusal.TheVariants as refusal
use Rattle.taxi_base.specs.declared.collections.Memory.{Memory}
use Rattle.replies.specs.Asked.{Choice, arrival_any, departure_any}
use Rattle.replies.specs.CarriedOut.{chosen_reply}
use Rattle.replies.specs.Replies.{refused}
use Rattle.command_refusals.specs.declared.choosing.TripToAny.{TripToAny}
use Rattle.taxi_engine.specs.declared.choosing.Movement.{Movement}
use Rattle.taxi_engine.specs.declared.choosing.Movement.TheVariants.{Arrival, Departure}
use Rattle.taxi_engine.specs.Engine.{EngineState}
use Rattle.taxi_engine.specs.Done.{IsDone}

-- the choice that is asked for
abbrev pub choice_of : TripToAny → Movement → Choice
choice_of trip Arrival = arrival_any trip.from trip.nodes trip.time trip.slack
choice_of trip Departure = departure_any trip.from trip.nodes trip.time trip.slack

-- what was chosen is told, and with a route its flight is in force
abbrev pub IsChosenTold : List ℕ → Class → Choice → Result Chosen Memory → EngineState → EngineState → Type 0
IsChosenTold name class choice chosen old new =
    ((answer : Chosen) × (chosen ≡ Ok answer) × IsDone (chosen_reply old.state name class choice answer) old new) ⊎ IsDone (refused old.state refusal.Memory) old new
