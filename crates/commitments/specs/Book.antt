-- What contracts see of a ledger: the holders in force, the flight that is lifted, for how many more there is room, and the
-- windows that the others leave.
use Rattle.std.specs.Prelude.{◌≡◌, ℕ, ◌≤◌, List, [], ◌∷◌, ◌++◌, length, map, option_and_then, Option, Some, None, IsSomeAnd, IfSome}
use Rattle.taxi_base.specs.declared.numbers.Segment.{Segment}
use Rattle.taxi_base.specs.declared.rows.Step.{Step}
use Rattle.taxi_base.specs.declared.answers.Flight.{Flight}
use Rattle.taxi_base.specs.declared.answers.Party.{Party}
use Rattle.taxi_base.specs.Airport.{Airport, clearance_of}
use Rattle.taxi_base.specs.Windows.{HeldRoute}
use Rattle.taxi_base.specs.State.{State, flight_named, without, party_step, holds_in, IsFeasibleState}
use Rattle.window_store.specs.Store.{Store}
use Rattle.window_store.specs.Stands.{StandsFor, HasRoomFor}

-- the flights and parties, the name of the flight that is lifted, how many more flights and parties come in with no memory,
-- and the free windows of each segment
pub record Book : Type 0 where
  pub state : State
  pub lifted : Option (List ℕ)
  pub room : ℕ
  pub party_room : ℕ
  pub store : Store

-- the flight that is lifted, where one is
abbrev pub lifted_flight : Book → Option Flight
lifted_flight book = option_and_then (λ name. flight_named name book.state.flights) book.lifted

-- the state without the flight that is lifted
abbrev pub without_lifted : Option (List ℕ) → State → State
without_lifted None state = state
without_lifted (Some name) state = without name state

abbrev pub remaining : Book → State
remaining book = without_lifted book.lifted book.state

-- The ledger fits an airport: each flight is on a feasible walk among the others, and each party where its segment may be shut
-- among the others; and the windows are those that all but the lifted flight leave. That one is in force, and there is room for
-- its steps.
pub record Fits (airport : Airport) (book : Book) : Type 0 where
  pub feasible : IsFeasibleState airport book.state
  pub lists : length book.store.lists ≡ length airport.segments
  pub horizon : book.store.horizon ≡ airport.horizon
  pub stands : StandsFor airport.conflicts airport.horizon (holds_in airport (remaining book)) book.store
  pub lifted : IfSome book.lifted (λ name. IsSomeAnd (flight_named name book.state.flights) (λ flight. HasRoomFor airport.conflicts flight.steps book.store))

-- there is room for one more flight with these steps
pub record IsPrepared (airport : Airport) (steps : List Step) (book : Book) : Type 0 where
  pub flight : 1 ≤ book.room
  pub windows : HasRoomFor airport.conflicts steps book.store

-- there is room for one more party on a segment, for whatever time
pub record IsPreparedForParty (airport : Airport) (segment : Segment) (book : Book) : Type 0 where
  pub party : 1 ≤ book.party_room
  pub windows : (party : Party) → party.segment ≡ segment → HasRoomFor airport.conflicts (party_step party ∷ []) book.store

-- a flight as a route, with the clearance of its class
abbrev pub route_of : Airport → Flight → HeldRoute
route_of airport flight = record { steps = flight.steps; clearance = clearance_of airport flight.class }

-- a party as a route of one step, with no clearance after it
abbrev pub party_route : Party → HeldRoute
party_route party = record { steps = party_step party ∷ []; clearance = 0 }

-- all of a state as routes, the parties first
abbrev pub routes_of : Airport → State → List HeldRoute
routes_of airport state = map party_route state.parties ++ map (route_of airport) state.flights
