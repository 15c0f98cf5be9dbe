-- What is found for a flight in force that is routed anew, and what is left as it was?
use Rattle.std.specs.Prelude.{ℕ, ◌≡◌, ◌<◌, ◌≤◌, List, length, Option, Some, None}
use Rattle.taxi_base.specs.declared.numbers.Node.{Node}
use Rattle.taxi_base.specs.declared.numbers.Segment.{Segment}
use Rattle.taxi_base.specs.declared.rows.Step.{Step}
use Rattle.taxi_base.specs.declared.answers.Request.{Request}
use Rattle.taxi_base.specs.declared.answers.Request.TheVariants.{Filed, Arrival, Departure}
use Rattle.taxi_base.specs.declared.answers.Flight.{Flight}
use Rattle.taxi_base.specs.declared.answers.Found.{Found}
use Rattle.taxi_base.specs.declared.answers.Found.TheVariants.{Route, NoRoute}
use Rattle.taxi_base.specs.Airport.{Airport}
use Rattle.taxi_base.specs.Walks.{Conditions, begin_of, end_of}
use Rattle.taxi_base.specs.Again.{IsTarget, AnswersAgain, IsBestAgain}
use Rattle.window_store.specs.Store.{spans_at}
use Rattle.window_store.specs.Kept.{KeepsNodes}
use Rattle.commitments.specs.Book.{Book, Fits, IsPrepared}

-- the node that is meant: the one to be led to, where there is one, and else the one that was asked for
abbrev pub IsMeant : Option Node → Request → Node → Type 0
IsMeant None request target = IsTarget request target
IsMeant (Some node) request target = target ≡ node

-- a route is found, and it is no worse than the old one: an arrival's ends no later, a departure's begins no earlier
abbrev pub IsNoWorse : Request → List Step → Found → Type 0
IsNoWorse request old (NoRoute labels) = ⊥
IsNoWorse Filed old (Route steps labels) = ⊥
IsNoWorse (Arrival from to time hold) old (Route steps labels) = end_of steps ≤ end_of old
IsNoWorse (Departure from to time queue) old (Route steps labels) = begin_of old ≤ begin_of steps

-- What is found for a flight from a time on answers it, to the node that is meant: the best of the walks that it may take, or
-- that there is none. Where it is led to no other node there is a route, and it is no worse.
pub record IsFoundAnew (c : Conditions) (flight : Flight) (time : ℕ) (to : Option Node) (found : Found) : Type 0 where
  pub target : Node
  pub meant : IsMeant to flight.request target
  pub answers : AnswersAgain c flight.steps time target flight.request found
  pub best : IsBestAgain c flight.steps time target flight.request found
  pub no_worse : to ≡ None → IsNoWorse flight.request flight.steps found

-- A ledger is as before: its flights and parties, none of them lifted, and its windows as lists of from and until. It fits, and
-- what there was room for there is room for still.
pub record IsAsBefore (airport : Airport) (old new : Book) : Type 0 where
  pub state : new.state ≡ old.state
  pub unlifted : new.lifted ≡ None
  pub windows : (segment : Segment) → segment.0 < length airport.segments → spans_at new.store segment ≡ spans_at old.store segment
  pub room : new.room ≡ old.room
  pub party_room : new.party_room ≡ old.party_room
  pub nodes : KeepsNodes old.store new.store
  pub prepared : (steps : List Step) → IsPrepared airport steps old → IsPrepared airport steps new
  pub fits : Fits airport new
