-- A flight that stays on its segment longer than planned: who is in its way, what is in force at once, and what each of them is
-- answered at its turn.
use Rattle.std.specs.Prelude.{ℕ, ◌≡◌, ◌⊎◌, ◌↔◌, ◌+◌, ◌-◌, ◌<◌, ◌≤◌, max, Bool, not, ◌&&◌, ◌||◌, ◌==◌, nat_lt, if◌then◌else◌, IsTrue, IsFalse, List, [], ◌∷◌, ◌++◌, map, filter, flat_map, take, Option, Some, None, unwrap_or, MatchOption, bytes_eq, AllPairs, Contains}
use Rattle.std.specs.List.{list_any}
use Rattle.std.specs.Option.{option_map_or}
use Rattle.taxi_base.specs.declared.rows.Step.{Step}
use Rattle.taxi_base.specs.declared.answers.Request.{Request}
use Rattle.taxi_base.specs.declared.answers.Request.TheVariants.{Filed, Arrival, Departure}
use Rattle.taxi_base.specs.declared.answers.Flight.{Flight}
use Rattle.taxi_base.specs.declared.answers.Party.{Party}
use Rattle.taxi_base.specs.declared.answers.Found.{Found}
use Rattle.taxi_base.specs.declared.answers.Found.TheVariants.{Route, NoRoute}
use Rattle.taxi_base.specs.declared.numbers.Arc.{Arc}
use Rattle.taxi_base.specs.declared.numbers.Class.{Class}
use Rattle.taxi_base.specs.Airport.{Airport, layout_of, segment_of, seconds, clearance_of}
use Rattle.taxi_base.specs.Windows.{Hold, hold_of, span_has, clash, blocks}
use Rattle.taxi_base.specs.Walks.{Conditions, begin_of, ReachesNodeWithin, Meets}
use Rattle.taxi_base.specs.State.{State, name_precedes, flight_named, without, with_route, flight_holds, party_hold, conditions_of, entered_count, step_begun, steps_done, IsFrozenWalk}
use Rattle.taxi_base.specs.Labels.{AnswersDepartureAfter}
use Rattle.taxi_base.specs.Again.{AnswersAgain, IsBestFor}

-- ---- who is late

-- a flight that at a time is on a step that it has begun, and stays on it until a second
pub record Delay : Type 0 where
  pub flight : Flight
  pub begun : Step
  pub time : ℕ
  pub until : ℕ

-- The flight is in force, and on that step at the time. It stays longer than planned, but not past the horizon.
pub record IsDelay (airport : Airport) (state : State) (delay : Delay) : Type 0 where
  pub in_force : flight_named delay.flight.name state.flights ≡ Some delay.flight
  pub under_way : step_begun delay.time delay.flight.steps ≡ Some delay.begun
  pub on_it : delay.time < delay.begun.leave
  pub late : delay.begun.leave < delay.until
  pub in_time : delay.until ≤ airport.horizon

-- what the step holds now: its segment from its enter on, until the clearance after the later leave is over
abbrev pub prolonged_hold : Airport → Delay → Hold
prolonged_hold airport delay =
    hold_of airport.horizon (clearance_of airport delay.flight.class) (record delay.begun { leave = delay.until })

-- ---- who is in its way

-- the first second of a hold that one of some holds of conflicting segments has too
pub record IsFirstCommon (airport : Airport) (hold : Hold) (holds : List Hold) (second : ℕ) : Type 0 where
  pub within : IsTrue (span_has hold.span second)
  pub common : IsTrue (list_any (blocks airport.conflicts hold.segment second) holds)
  pub first : (t : ℕ) → hold.span.from ≤ t → t < second → IsFalse (list_any (blocks airport.conflicts hold.segment t) holds)

-- a holder of a name is in the way from a second on
pub record Meeting : Type 0 where
  pub second : ℕ
  pub name : List ℕ

-- another flight or a work party of this name holds a conflicting segment, from this second of the prolonged hold on
abbrev pub IsInTheWay : Airport → State → Delay → Meeting → Type 0
IsInTheWay airport state delay meeting =
    ((p : Party) × Contains state.parties p × (p.name ≡ meeting.name)
    × IsFirstCommon airport (prolonged_hold airport delay) (party_hold p ∷ []) meeting.second)
    ⊎ ((f : Flight) × Contains state.flights f × (f.name ≡ meeting.name) × IsFalse (bytes_eq f.name delay.flight.name)
    × IsFirstCommon airport (prolonged_hold airport delay) (flight_holds airport f) meeting.second)

-- whether a meeting stands before another: by its second, and then by name
abbrev pub meeting_precedes : Meeting → Meeting → Bool
meeting_precedes a b = nat_lt a.second b.second || (a.second == b.second && name_precedes a.name b.name)

-- all who are in its way, in order
pub record AreInTheWay (airport : Airport) (state : State) (delay : Delay) (meetings : List Meeting) : Type 0 where
  pub ordered : AllPairs (λ a b. IsTrue (meeting_precedes a b)) meetings
  pub whole : (meeting : Meeting) → Contains meetings meeting ↔ IsInTheWay airport state delay meeting

-- ---- what is in force at once

-- the steps that were entered by a time, the last of them with another leave; none where none was entered
abbrev pub kept_steps : ℕ → (Step → ℕ) → List Step → List Step
kept_steps time leave steps =
    option_map_or (λ begun. steps_done time steps ++ record begun { leave = leave begun } ∷ []) (step_begun time steps) []

-- when a class can be through with a step that it has begun by a time, but no sooner than the time
abbrev pub soonest_leave : Airport → Class → ℕ → Step → ℕ
soonest_leave airport class time begun = max time (begun.enter + unwrap_or (seconds airport class (segment_of begun.arc)) 0)

abbrev pub is_late : Delay → Flight → Bool
is_late delay flight = bytes_eq flight.name delay.flight.name

-- What a flight keeps of its steps: the one that is late stays on its last, and another leaves its last as soon as it can.
abbrev pub steps_kept : Airport → Delay → Flight → List Step
steps_kept airport delay flight =
    if is_late delay flight then kept_steps delay.time (λ _. delay.until) flight.steps
    else kept_steps delay.time (soonest_leave airport flight.class delay.time) flight.steps

-- whether a party, or a flight, meets the prolonged hold
abbrev pub party_meets : Airport → Delay → Party → Bool
party_meets airport delay party = clash airport.conflicts (prolonged_hold airport delay) (party_hold party)

abbrev pub flight_meets : Airport → Delay → Flight → Bool
flight_meets airport delay flight = list_any (clash airport.conflicts (prolonged_hold airport delay)) (flight_holds airport flight)

-- a flight on some steps; it is out where there is none
abbrev pub on_steps : Flight → List Step → List Flight
on_steps flight [] = []
on_steps flight (s ∷ steps) = record flight { steps = s ∷ steps } ∷ []

-- the flight that is late, and each that meets the prolonged hold, keep the steps that they keep; another stays as it is
abbrev pub flight_at_once : Airport → Delay → Flight → List Flight
flight_at_once airport delay flight =
    if is_late delay flight || flight_meets airport delay flight then on_steps flight (steps_kept airport delay flight) else flight ∷ []

-- The state that the turns begin in. A party that meets the prolonged hold is out.
abbrev pub base_state : Airport → State → Delay → State
base_state airport state delay = record {
  flights = flat_map (flight_at_once airport delay) state.flights;
  parties = filter (λ p. not (party_meets airport delay p)) state.parties;
}

-- ---- what a flight seeks at its turn

-- A departure that has begun goes on as an arrival does. Every other flight seeks what it asked for.
abbrev pub request_sought : Request → List Step → Request
request_sought (Departure from to time queue) (s ∷ kept) = Arrival from to time queue
request_sought request kept = request

-- the time from which a flight may leave its last step, or begin
abbrev pub time_sought : Delay → Flight → ℕ
time_sought delay flight = if is_late delay flight then delay.until else delay.time

-- A walk that a flight with these kept steps may take from a time on: it goes on from the last of them, or begins anew. A
-- departure begins after the time. A flight that asked for nothing has none.
abbrev pub IsWalkSought : Conditions → Request → List Step → ℕ → List Step → Type 0
IsWalkSought c Filed kept time steps = ⊥
IsWalkSought c (Arrival from to asked hold) kept time steps = IsFrozenWalk c kept time to (Arrival from to asked hold) steps
IsWalkSought c (Departure from to asked queue) kept time steps = Meets c (Departure from to asked queue) steps × (time < begin_of steps)

-- The answer: the picked one of the best of them with its table, or that there is none.
abbrev pub AnswersTurn : Conditions → Request → List Step → ℕ → Found → Type 0
AnswersTurn c Filed kept time found = ⊥
AnswersTurn c (Arrival from to asked hold) kept time found = AnswersAgain c kept time to (Arrival from to asked hold) found
AnswersTurn c (Departure from to asked queue) kept time found =
    AnswersDepartureAfter c from (ReachesNodeWithin (layout_of c.airport) to (asked - queue) asked) time found

-- so it is the best of them, or there is none
abbrev pub IsBestSought : Conditions → Request → List Step → ℕ → Found → Type 0
IsBestSought c request kept time (Route steps labels) = IsBestFor request (IsWalkSought c request kept time) steps
IsBestSought c request kept time (NoRoute labels) = (steps : List Step) → IsWalkSought c request kept time steps → ⊥

-- ---- the turns

-- what a flight asks for once it is routed: a departure that has begun for nothing more
abbrev pub request_routed : Request → List Step → Request
request_routed (Departure from to time queue) (s ∷ kept) = Filed
request_routed request kept = request

-- The state after a turn. Where there is no route a flight that has begun is in force on the steps that it kept, and asks for
-- nothing more. One that has not begun is out.
abbrev pub after_turn : State → Flight → List Step → Found → State
after_turn state flight kept (Route steps labels) = with_route flight (request_routed flight.request kept) steps state
after_turn state flight [] (NoRoute labels) = without flight.name state
after_turn state flight (s ∷ kept) (NoRoute labels) = with_route flight Filed (s ∷ kept) state

-- The turn of a flight: what it asked for, or that it asked for nothing and is dropped, which changes nothing.
abbrev pub IsTurnOfFlight : Airport → Delay → Flight → State → Option Found → State → Type 0
IsTurnOfFlight airport delay flight state None after = (flight.request ≡ Filed) × (after ≡ state)
IsTurnOfFlight airport delay flight state (Some found) after =
    AnswersTurn (conditions_of airport state flight) (request_sought flight.request (steps_kept airport delay flight)) (steps_kept airport delay flight)
    (time_sought delay flight) found
    × (after ≡ after_turn state flight (steps_kept airport delay flight) found)

-- the turn of the holder that had a name at first; a work party is dropped
abbrev pub IsTurnOf : Airport → Delay → State → List ℕ → State → Option Found → State → Type 0
IsTurnOf airport delay at_first name state told after =
    MatchOption (flight_named name at_first.flights) ((told ≡ None) × (after ≡ state)) (λ flight. IsTurnOfFlight airport delay flight state told after)

-- the holders of some names in turn, each in the state after the one before
abbrev pub AreTurns : Airport → Delay → State → List (List ℕ) → State → List (Option Found) → State → Type 0
AreTurns airport delay at_first [] state [] after = after ≡ state
AreTurns airport delay at_first (name ∷ names) state (told ∷ later) after =
    (next : State) × IsTurnOf airport delay at_first name state told next × AreTurns airport delay at_first names next later after
AreTurns airport delay at_first names state tells after = ⊥

-- The flight that is late takes its turn first, and after it those in its way.
pub record IsRepaired (airport : Airport) (state : State) (delay : Delay) (meetings : List Meeting) (tells : List (Option Found)) (after : State) : Type 0 where
  pub in_the_way : AreInTheWay airport state delay meetings
  pub turns : AreTurns airport delay state (delay.flight.name ∷ map (λ m. m.name) meetings) (base_state airport state delay) tells after

-- ---- what stays of steps

abbrev pub arc_and_enter : Step → Arc × ℕ
arc_and_enter s = (s.arc, s.enter)

-- the steps that were entered by a time keep their arcs and enters
abbrev pub KeepsEntered : ℕ → List Step → List Step → Type 0
KeepsEntered time old new = map arc_and_enter (take (entered_count time old) new) ≡ map arc_and_enter (take (entered_count time old) old)
