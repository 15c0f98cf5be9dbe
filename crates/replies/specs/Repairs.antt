-- Who is told of where a flight is late, what does each of them seek at its turn, and what is in force afterwards?
use Rattle.std.specs.Prelude.{ℕ, ◌≡◌, Bool, true, IsTrue, IsFalse, if◌then◌else◌, List, [], ◌∷◌, map, All, Option, Some, None, option_map, option_and_then}
use Rattle.std.specs.Option.{option_map_or}
use Rattle.taxi_base.specs.declared.rows.Step.{Step}
use Rattle.taxi_base.specs.declared.answers.Request.{Request}
use Rattle.taxi_base.specs.declared.answers.Request.TheVariants as request
use Rattle.taxi_base.specs.declared.answers.Flight.{Flight}
use Rattle.taxi_base.specs.declared.answers.Found.{Found}
use Rattle.taxi_base.specs.declared.answers.Found.TheVariants as found
use Rattle.taxi_base.specs.Airport.{Airport}
use Rattle.taxi_base.specs.State.{State, flight_named, with_route, conditions_of, step_begun}
use Rattle.taxi_base.specs.Late.{Delay, Meeting, AreInTheWay, steps_kept, request_sought, time_sought, request_routed, after_turn, IsRepaired}
use Rattle.replies.specs.declared.entries.Entry.{Entry}
use Rattle.replies.specs.declared.entries.Entry.TheVariants as entry
use Rattle.replies.specs.declared.block.Block.{Block}
use Rattle.replies.specs.declared.block.Block.TheVariants.{Late}
use Rattle.replies.specs.Refusals.{is_filed}
use Rattle.replies.specs.Routed.{second_of}
use Rattle.replies.specs.Sought.{Sought, UnderWay}

-- ---- who is late

-- the flight of a name, which stays on its step at a time until a second
abbrev pub delay_of : State → List ℕ → ℕ → ℕ → Option Delay
delay_of state name time until =
    option_and_then (λ flight. option_map (λ begun. record { flight = flight; begun = begun; time = time; until = until }) (step_begun time flight.steps))
    (flight_named name state.flights)

-- whose turn it is: the flight that is late, and after it those in its way
abbrev pub names_in_turn : Delay → List Meeting → List (List ℕ)
names_in_turn delay meetings = delay.flight.name ∷ map (λ m. m.name) meetings

-- ---- what is sought at a turn

-- A departure that has not begun is not under way, and has to begin after the time. Every other flight goes on from the steps that it
-- keeps, perhaps none.
abbrev pub way_sought : Request → List Step → ℕ → Option UnderWay
way_sought (request.Departure from to time queue) kept from_on = None
way_sought other kept from_on = Some (record { steps = kept; time = from_on })

abbrev pub floor_sought : Request → ℕ → Option ℕ
floor_sought (request.Departure from to time queue) from_on = Some from_on
floor_sought other from_on = None

-- what a flight with these kept steps seeks among the others, for a request, from a time on
abbrev pub sought_on : Airport → State → Flight → List Step → Request → ℕ → Sought
sought_on airport state flight kept asked from_on = record {
  name = flight.name;
  conditions = conditions_of airport state flight;
  request = asked;
  others = [];
  under_way = way_sought asked kept from_on;
  floor = floor_sought asked from_on;
  may_be_none = true;
  with_steps = λ steps. with_route flight (request_routed flight.request kept) steps state;
  with_none = after_turn state flight kept (found.NoRoute []);
}

-- what a flight seeks at its turn
abbrev pub sought_late : Airport → Delay → Flight → State → Sought
sought_late airport delay flight state =
    sought_on airport state flight (steps_kept airport delay flight) (request_sought flight.request (steps_kept airport delay flight)) (time_sought delay flight)

-- what the flight that had a name at first seeks; none where it asked for nothing, and none for a work party
abbrev pub sought_at_turn : Airport → Delay → State → List ℕ → State → Option Sought
sought_at_turn airport delay at_first name state =
    option_and_then (λ flight. if is_filed flight.request then None else Some (sought_late airport delay flight state)) (flight_named name at_first.flights)

-- ---- what is told

-- what the flight that had a name at first seeks a walk for
abbrev pub request_at_turn : Airport → Delay → State → List ℕ → Request
request_at_turn airport delay at_first name =
    option_map_or (λ flight. request_sought flight.request (steps_kept airport delay flight)) (flight_named name at_first.flights) request.Filed

-- the answer to a request, or that there was none
abbrev pub entry_told : Request → Option Found → Entry
entry_told sought None = entry.Dropped
entry_told sought (Some (found.Route steps labels)) = entry.Route (second_of sought steps) steps labels
entry_told sought (Some (found.NoRoute labels)) = entry.NoRoute labels

-- names, each with what it is told
abbrev pub entries_told : Airport → Delay → State → List (List ℕ) → List (Option Found) → List (List ℕ × Entry)
entries_told airport delay at_first (name ∷ names) (told ∷ later) =
    (name, entry_told (request_at_turn airport delay at_first name) told) ∷ entries_told airport delay at_first names later
entries_told airport delay at_first names tells = []

-- a late flight is answered: it and those in its way take their turns, and the block tells what comes of it
pub record IsRepairTold (airport : Airport) (state : State) (name : List ℕ) (time until : ℕ) (block : Block) (after : State) : Type 0 where
  pub delay : Delay
  pub known : delay_of state name time until ≡ Some delay
  pub meetings : List Meeting
  pub tells : List (Option Found)
  pub repaired : IsRepaired airport state delay meetings tells after
  pub block_is : block ≡ Late name (entries_told airport delay state (names_in_turn delay meetings) tells)

-- ---- the form of a reply

-- whether the holder of a name is dropped: a flight that asked for nothing, or a work party
abbrev pub is_dropped : State → List ℕ → Bool
is_dropped state name = option_map_or (λ flight. is_filed flight.request) (flight_named name state.flights) true

-- an entry drops its holder exactly where it is to be dropped
abbrev pub IsDroppedAsDue : State → List ℕ × Entry → Type 0
IsDroppedAsDue state (name, entry.Dropped) = IsTrue (is_dropped state name)
IsDroppedAsDue state (name, entry.Route second steps labels) = IsFalse (is_dropped state name)
IsDroppedAsDue state (name, entry.NoRoute labels) = IsFalse (is_dropped state name)

-- The flight that is late and those in its way are told of in turn, each once, and dropped exactly where that is due.
pub record TellsRepair (airport : Airport) (state : State) (name : List ℕ) (time until : ℕ) (block : Block) : Type 0 where
  pub delay : Delay
  pub known : delay_of state name time until ≡ Some delay
  pub meetings : List Meeting
  pub in_the_way : AreInTheWay airport state delay meetings
  pub entries : List (List ℕ × Entry)
  pub block_is : block ≡ Late name entries
  pub in_turn : map (λ told. told.0) entries ≡ names_in_turn delay meetings
  pub dropped : All (IsDroppedAsDue state) entries
