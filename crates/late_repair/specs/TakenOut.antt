-- Holders that were taken out of force, and the state in which they are in force again.
use Rattle.std.specs.Prelude.{ℕ, ◌≡◌, IsFalse, List, [], ◌∷◌, map, All, AllPairs, Contains, None, Some, bytes_eq}
use Rattle.taxi_base.specs.Airport.{Airport}
use Rattle.taxi_base.specs.Walks.{IsFeasibleWalk}
use Rattle.taxi_base.specs.State.{State, flight_named, has_holder, without, with_flight, with_party, party_hold, IsFeasibleHold}
use Rattle.taxi_base.specs.Faults.{conditions_in}
use Rattle.commitments.specs.Book.{Book}
use Rattle.commitments.specs.Room.{LosesNoRoom}
use Rattle.late_repair.specs.declared.holder.Holder.{Holder}
use Rattle.late_repair.specs.declared.holder.Holder.TheVariants.{Flight, Party}

abbrev pub name_of : Holder → List ℕ
name_of (Flight flight) = flight.name
name_of (Party party) = party.name

-- a state with one more holder, and with some more
abbrev pub with_holder : Holder → State → State
with_holder (Flight flight) state = with_flight flight state
with_holder (Party party) state = with_party party state

abbrev pub with_holders : List Holder → State → State
with_holders [] state = state
with_holders (holder ∷ holders) state = with_holder holder (with_holders holders state)

-- and without the holders of some names
abbrev pub without_all : List (List ℕ) → State → State
without_all [] state = state
without_all (name ∷ names) state = without_all names (without name state)

-- the state in which these are in force again as they were, in place of whoever has their names
abbrev pub taken_back : List Holder → State → State
taken_back holders state = with_holders holders (without_all (map name_of holders) state)

-- ---- no public clause cites these

-- no two have one name
abbrev pub AreOthers : List Holder → Type 0
AreOthers holders = AllPairs (λ a b. IsFalse (bytes_eq (name_of b) (name_of a))) holders

-- none of their names is in force
abbrev pub AreOut : State → List Holder → Type 0
AreOut state holders = All (λ holder. IsFalse (has_holder (name_of holder) state)) holders

-- one of them is in force
abbrev pub IsIn : State → Holder → Type 0
IsIn state (Flight flight) = Contains state.flights flight
IsIn state (Party party) = Contains state.parties party

-- its name finds the flight, or no flight
abbrev pub IsFound : State → Holder → Type 0
IsFound state (Flight flight) = flight_named flight.name state.flights ≡ Some flight
IsFound state (Party party) = flight_named party.name state.flights ≡ None

-- a flight's steps are a walk among all holders, or a party's segment may be shut among them
abbrev pub IsFeasibleAmong : Airport → State → Holder → Type 0
IsFeasibleAmong airport state (Flight flight) = IsFeasibleWalk (conditions_in airport flight.class state) flight.steps
IsFeasibleAmong airport state (Party party) = IsFeasibleHold airport state (party_hold party)

-- nothing changes but the holder of a name, and no room is lost
pub record ChangesOnly (name : List ℕ) (old new : Book) : Type 0 where
  pub others : without name new.state ≡ without name old.state
  pub room : LosesNoRoom old new

-- nor any of these holders' names
pub record ChangesTheirs (holders : List Holder) (old new : Book) : Type 0 where
  pub back : taken_back holders new.state ≡ taken_back holders old.state
  pub room : LosesNoRoom old new
