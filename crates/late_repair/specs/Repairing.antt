-- What holds while those in the way of a late flight take their turns, and what comes of it. No public clause but those of `repair`
-- cites these.
use Rattle.std.specs.Prelude.{ℕ, ◌≡◌, ◌⊎◌, ◌-◌, ◌<◌, ◌≤◌, min, if◌then◌else◌, IsTrue, IsFalse, List, [], ◌∷◌, length, Option, Some, None, ⊤}
use Rattle.std.specs.List.{list_any}
use Rattle.taxi_base.specs.declared.rows.Step.{Step}
use Rattle.taxi_base.specs.declared.answers.Request.{Request}
use Rattle.taxi_base.specs.declared.answers.Request.TheVariants as request
use Rattle.taxi_base.specs.declared.answers.Flight.{Flight}
use Rattle.taxi_base.specs.declared.answers.Found.{Found}
use Rattle.taxi_base.specs.declared.answers.Found.TheVariants as found
use Rattle.taxi_base.specs.Airport.{Airport, segment_of}
use Rattle.taxi_base.specs.Windows.{Hold, clash}
use Rattle.taxi_base.specs.Walks.{Conditions, IsFeasibleWalk}
use Rattle.taxi_base.specs.State.{State, party_named, holder_count, without, with_flight, flight_holds, conditions_of}
use Rattle.taxi_base.specs.Faults.{conditions_in}
use Rattle.taxi_base.specs.Late.{Delay, Meeting, IsFirstCommon, prolonged_hold, is_late, flight_meets, soonest_leave, steps_kept, IsRepaired}
use Rattle.replies.specs.declared.entries.Entry.{Entry}
use Rattle.replies.specs.Repairs.{names_in_turn, entries_told}
use Rattle.late_repair.specs.declared.delay.Hold as held
use Rattle.late_repair.specs.declared.holder.Holder.{Holder}
use Rattle.late_repair.specs.declared.holder.Holder.TheVariants as one

-- ---- what comes of a late flight

-- The flight and those in its way take their turns, and the entries tell what comes of it.
pub record IsRepairedAs (airport : Airport) (state : State) (delay : Delay) (entries : List (List ℕ × Entry)) (after : State) : Type 0 where
  pub meetings : List Meeting
  pub tells : List (Option Found)
  pub repaired : IsRepaired airport state delay meetings tells after
  pub entries_are : entries ≡ entries_told airport delay state (names_in_turn delay meetings) tells

-- ---- no public clause cites these

-- a segment that is held for a span
abbrev pub hold_seen : held.Hold → Hold
hold_seen hold = record { segment = hold.segment; span = hold.span }

-- the step on which the flight stays is on a segment of the airport
abbrev pub IsOnSegment : Airport → Delay → Type 0
IsOnSegment airport delay = (segment_of delay.begun.arc).0 < length airport.segments

-- of two seconds the earlier one
abbrev pub earlier : Option ℕ → Option ℕ → Option ℕ
earlier None other = other
earlier (Some one) None = Some one
earlier (Some one) (Some other) = Some (min one other)

-- the first second of a hold that one of some holds of conflicting segments has too, or that there is none
abbrev pub IsFirstCommonOf : Airport → Hold → List Hold → Option ℕ → Type 0
IsFirstCommonOf airport hold holds None = IsFalse (list_any (clash airport.conflicts hold) holds)
IsFirstCommonOf airport hold holds (Some second) = IsFirstCommon airport hold holds second

-- the same of what a flight holds, where it is another than the one that is late
abbrev pub IsOtherMeeting : Airport → Delay → Flight → Option ℕ → Type 0
IsOtherMeeting airport delay flight None = IsTrue (is_late delay flight) ⊎ IsFalse (flight_meets airport delay flight)
IsOtherMeeting airport delay flight (Some second) = IsFalse (is_late delay flight) × IsFirstCommon airport (prolonged_hold airport delay) (flight_holds airport flight) second

-- when a flight leaves the last of the steps that it keeps
abbrev pub leave_kept : Airport → Delay → Flight → Step → ℕ
leave_kept airport delay flight begun = if is_late delay flight then delay.until else soonest_leave airport flight.class delay.time begun

-- A flight may take its turn: among the others there is room for one more, and the steps that it keeps are a walk. No work party
-- has its name.
pub record MayTakeTurn (airport : Airport) (delay : Delay) (now : State) (flight : Flight) : Type 0 where
  pub few : holder_count (without flight.name now) < 4096
  pub kept : 0 < length (steps_kept airport delay flight) → IsFeasibleWalk (conditions_of airport now flight) (steps_kept airport delay flight)
  pub no_party : party_named flight.name now.parties ≡ None

-- what was asked for can be had by the horizon, as a departure's end can
abbrev pub IsTimely : Airport → Request → Type 0
IsTimely airport request.Filed = ⊤
IsTimely airport (request.Arrival from to time hold) = ⊤
IsTimely airport (request.Departure from to time queue) = time - queue ≤ airport.horizon

-- a route that is found has a step
abbrev pub HasSteps : Found → Type 0
HasSteps (found.Route steps labels) = 0 < length steps
HasSteps (found.NoRoute labels) = ⊤

-- a route that is found is a walk
abbrev pub HasWalk : Conditions → Found → Type 0
HasWalk c (found.Route steps labels) = IsFeasibleWalk c steps
HasWalk c (found.NoRoute labels) = ⊤

-- a state with a flight on the steps that it keeps, if there are any
abbrev pub with_kept : Flight → List Step → State → State
with_kept flight [] state = state
with_kept flight (s ∷ steps) state = with_flight (record flight { steps = s ∷ steps }) state

-- the same of a holder that was taken out; a work party stays out
abbrev pub placed_at_once : Airport → Delay → Holder → State → State
placed_at_once airport delay (one.Flight flight) state = with_kept flight (steps_kept airport delay flight) state
placed_at_once airport delay (one.Party party) state = state

-- the flight was on a walk, and what it keeps of that is a walk among all holders
abbrev pub CanBePlaced : Airport → Delay → State → Holder → Type 0
CanBePlaced airport delay state (one.Flight flight) =
    ((before : State) × IsFeasibleWalk (conditions_of airport before flight) flight.steps)
    × (0 < length (steps_kept airport delay flight) → IsFeasibleWalk (conditions_in airport flight.class state) (steps_kept airport delay flight))
CanBePlaced airport delay state (one.Party party) = ⊤

-- the flight was on a walk, what it asked for can be had, and it may take its turn
abbrev pub WaitsForTurn : Airport → Delay → State → Holder → Type 0
WaitsForTurn airport delay state (one.Flight flight) =
    ((before : State) × IsFeasibleWalk (conditions_of airport before flight) flight.steps) × IsTimely airport flight.request × MayTakeTurn airport delay state flight
WaitsForTurn airport delay state (one.Party party) = ⊤
