-- What is asked of a flight in force anew, and what is found of a block that tells of it?
use Rattle.std.specs.Prelude.{ℕ, ◌≡◌, Bool, List, [], Some, None, Result}
use Rattle.taxi_base.specs.declared.answers.Flight.{Flight}
use Rattle.taxi_base.specs.declared.answers.Request.{Request}
use Rattle.taxi_base.specs.declared.rows.Step.{Step}
use Rattle.taxi_base.specs.Airport.{Airport}
use Rattle.taxi_base.specs.Walks.{Meets}
use Rattle.taxi_base.specs.State.{State, flight_named, conditions_of}
use Rattle.taxi_text.specs.declared.command.Command.{Command}
use Rattle.replies.specs.declared.block.Block.{Block}
use Rattle.replies.specs.Refusals.{first_refusal}
use Rattle.replies.specs.Sought.{Sought, sought_of, sought_again, IsWalkOnFor}
use Rattle.replies.specs.Passes.{KeepsSought}
use Rattle.transcripts.specs.declared.refused.CheckRefused.{CheckRefused}
use Rattle.check_walks.specs.Told.{Seeks, CanBeSought}
use Rattle.certificate_check.specs.Judged.{IsAnsweredBy}

-- the first rule after the form that the block breaks is answered: the flight is sought among the others, from a time on and with a
-- request that has perhaps another node to reach
abbrev pub IsFoundAmong : Airport → State → List ℕ → ℕ → Request → Block → Result Unit CheckRefused → Type 0
IsFoundAmong airport state name time request block result =
    (flight : Flight) → flight_named name state.flights ≡ Some flight
    → (s : Sought) → Seeks (conditions_of airport state flight) request [] (Some (record { steps = flight.steps; time = time })) s → IsAnsweredBy (λ rule. KeepsSought rule s block) result

-- a command is not refused, and asks this of the flight of a name from a time on: it can be sought, and a walk on is one that is asked for
pub record IsAskedAnew (airport : Airport) (state : State) (command : Command) (name : List ℕ) (time : ℕ) (may_be_none : Bool) (request : Request) : Type 0 where
  pub unrefused : first_refusal airport state command ≡ None
  pub flight : Flight
  pub in_force : flight_named name state.flights ≡ Some flight
  pub sought : sought_of airport state command ≡ Some (sought_again airport state name time may_be_none flight request)
  pub can : CanBeSought airport request
  pub meant : (f : Flight) → flight_named name state.flights ≡ Some f → (steps : List Step) → IsWalkOnFor (conditions_of airport state f) request (record { steps = f.steps; time = time }) steps → Meets (conditions_of airport state f) request steps
