-- What answers a new flight that is to be routed, and what is in force afterwards?
use Rattle.std.specs.Prelude.{ℕ, ◌≡◌, List}
use Rattle.taxi_base.specs.declared.numbers.Class.{Class}
use Rattle.taxi_base.specs.declared.rows.Step.{Step}
use Rattle.taxi_base.specs.declared.answers.Request.{Request}
use Rattle.taxi_base.specs.declared.answers.Request.TheVariants as request
use Rattle.taxi_base.specs.declared.answers.Flight.{Flight}
use Rattle.taxi_base.specs.declared.answers.Found.{Found}
use Rattle.taxi_base.specs.declared.answers.Found.TheVariants as found
use Rattle.taxi_base.specs.Airport.{Airport}
use Rattle.taxi_base.specs.Walks.{begin_of, end_of}
use Rattle.taxi_base.specs.State.{State, with_flight}
use Rattle.taxi_base.specs.Faults.{conditions_in}
use Rattle.replies.specs.declared.block.Block.{Block}
use Rattle.replies.specs.declared.block.Block.TheVariants.{Route, NoRoute}
use Rattle.replies.specs.Asked.{AnswersRequest}

-- what is answered, and the state afterwards
pub record Reply : Type 0 where
  pub block : Block
  pub after : State

-- a block and a state are those of a reply
abbrev pub IsOf : Reply → Block → State → Type 0
IsOf reply block after = (block ≡ reply.block) × (after ≡ reply.after)

-- the second that is told with a route: where a departure begins, and where an arrival ends
abbrev pub second_of : Request → List Step → ℕ
second_of (request.Departure from to time queue) steps = begin_of steps
second_of _ steps = end_of steps

-- A route is told with its labels, and is in force afterwards. Where there is none the labels are told, and nothing changes.
abbrev pub found_reply : State → List ℕ → Request → (List Step → State) → Found → Reply
found_reply state name request with_steps (found.Route steps labels) =
    record { block = Route name (second_of request steps) steps labels; after = with_steps steps }
found_reply state name request with_steps (found.NoRoute labels) = record { block = NoRoute labels; after = state }

abbrev pub routed_flight : List ℕ → Class → Request → List Step → Flight
routed_flight name class request steps = record { name = name; class = class; request = request; steps = steps }

-- a new flight is routed as it asks, among all holders
pub record IsRoutedAs (airport : Airport) (state : State) (name : List ℕ) (class : Class) (request : Request) (block : Block) (after : State) : Type 0 where
  pub found : Found
  pub answers : AnswersRequest (conditions_in airport class state) request found
  pub reply : IsOf (found_reply state name request (λ steps. with_flight (routed_flight name class request steps) state) found) block after
