-- The flights and work parties that are kept as a state, and the spans of what they hold.
use Rattle.std.specs.Prelude.{ℕ, ◌≡◌, List, ◌++◌, length, map, flat_map, Some}
use Rattle.taxi_base.specs.declared.answers.Flight.{Flight}
use Rattle.taxi_base.specs.declared.answers.Party.{Party}
use Rattle.taxi_base.specs.Airport.{Airport}
use Rattle.taxi_base.specs.State.{State, flight_named, flight_holds, party_hold}
use Rattle.checked_state.specs.declared.list.FlightList.{FlightList}
use Rattle.checked_state.specs.declared.party_list.PartyList.{PartyList}
use Rattle.checked_state.specs.declared.flights.HeldFlights.{HeldFlights}
use Rattle.held_spans.specs.Spans.{NamedHold, held_by, AreHeldBy, HasRoomFor}

-- what stands in the two lists, and both as a state
abbrev pub flights_of : FlightList → List Flight
flights_of list = map (λ b. b.value) list.boxes.items

abbrev pub parties_of : PartyList → List Party
parties_of list = list.parties.items

abbrev pub state_of : HeldFlights → State
state_of held = record { flights = flights_of held.flights; parties = parties_of held.parties }

-- what a flight and a party hold, and all of a state, each with the name of the holder
abbrev pub flight_held : Airport → Flight → List NamedHold
flight_held airport flight = held_by flight.name (flight_holds airport flight)

abbrev pub party_held : Party → NamedHold
party_held party = record { hold = party_hold party; holder = party.name }

abbrev pub named_in : Airport → State → List NamedHold
named_in airport state = map party_held state.parties ++ flat_map (flight_held airport) state.flights

-- there is a list for each segment of the airport, and the lists have the spans of what is held in a state, each with the name of its holder
pub record HasSpansOf (airport : Airport) (state : State) (held : HeldFlights) : Type 0 where
  pub lists : length held.spans.lists.items ≡ length airport.segments
  pub holders : AreHeldBy (named_in airport state) held.spans

-- there is room for the spans of the flight of a name
abbrev pub HasRoomAgain : List ℕ → HeldFlights → Type 0
HasRoomAgain name held = (flight : Flight) → flight_named name (flights_of held.flights) ≡ Some flight → HasRoomFor flight.steps held.spans
