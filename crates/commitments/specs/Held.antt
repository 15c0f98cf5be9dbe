-- The steps by which holders hold segments, kept by segment.
use Rattle.std.specs.Prelude.{ℕ, ◌≡◌, ◌+◌, ◌<◌, ◌≤◌, ◌==◌, if◌then◌else◌, Bool, List, ◌∷◌, ◌++◌, length, map, flat_map, count_by, slice_index_or, [], All}
use Rattle.std.specs.List.Sorted.{IsNonDecreasingBy}
use Rattle.taxi_base.specs.declared.numbers.Segment.{Segment}
use Rattle.taxi_base.specs.declared.rows.Step.{Step}
use Rattle.taxi_base.specs.declared.rows.Span.{Span}
use Rattle.taxi_base.specs.declared.answers.Flight.{Flight}
use Rattle.taxi_base.specs.declared.answers.Party.{Party}
use Rattle.taxi_base.specs.Airport.{Airport, segment_of, clearance_of}
use Rattle.window_store.specs.Store.{Store}
use Rattle.window_store.specs.Beside.{HasRoomBeside}
use Rattle.taxi_base.specs.Windows.{Hold, hold_of}
use Rattle.taxi_base.specs.State.{State, party_step}
use Rattle.commitments.specs.declared.segment_holds.HeldStep.{HeldStep}
use Rattle.commitments.specs.declared.segment_holds.Holder.{Holder}

-- the clearance of a flight's class; a party has none
abbrev pub clearance_after : Airport → Holder → ℕ
clearance_after airport holder = if holder.party == 1 then 0 else clearance_of airport holder.class

-- what a step holds
abbrev pub hold_by : Airport → HeldStep → Hold
hold_by airport held = hold_of airport.horizon (clearance_after airport held.holder) held.step

abbrev pub spans_by : Airport → List HeldStep → List Span
spans_by airport steps = map (λ held. (hold_by airport held).span) steps

-- the steps of one holder
abbrev pub steps_with : Holder → List Step → List HeldStep
steps_with holder steps = map (λ step. record { step = step; holder = holder }) steps

-- as whom a party and a flight hold segments
abbrev pub party_holder : Party → Holder
party_holder party = record { name = party.name; class = record { 0 = 0 }; party = 1 }

abbrev pub flight_holder : Flight → Holder
flight_holder flight = record { name = flight.name; class = flight.class; party = 0 }

-- those of each holder, the parties first, and those of all
abbrev pub party_steps : Party → List HeldStep
party_steps party = steps_with (party_holder party) (party_step party ∷ [])

abbrev pub flight_steps : Flight → List HeldStep
flight_steps flight = steps_with (flight_holder flight) flight.steps

abbrev pub steps_of_each : State → List (List HeldStep)
steps_of_each state = map party_steps state.parties ++ map flight_steps state.flights

abbrev pub joined : List (List HeldStep) → List HeldStep
joined each = flat_map (λ steps. steps) each

abbrev pub steps_in : State → List HeldStep
steps_in state = joined (steps_of_each state)

-- the same steps in another order: as many pass each test
abbrev pub AreAsMany : List HeldStep → List HeldStep → Type 0
AreAsMany steps others = (test : HeldStep → Bool) → count_by test steps ≡ count_by test others

-- the steps on one segment, and how many there may be without taking memory
pub record StepList : Type 0 where
  pub steps : List HeldStep
  pub capacity : ℕ

abbrev pub no_step : StepList
no_step = record { steps = []; capacity = 0 }

abbrev pub list_of : List StepList → Segment → StepList
list_of lists segment = slice_index_or lists segment.0 no_step

-- the steps of all segments
abbrev pub all_steps : List StepList → List HeldStep
all_steps lists = flat_map (λ l. l.steps) lists

-- each list has steps on its segment
abbrev pub AreBySegment : List StepList → Type 0
AreBySegment lists = (segment : Segment) → segment.0 < length lists → All (λ held. segment_of held.step.arc ≡ segment) (list_of lists segment).steps

-- the steps of a list from one on: those before it hold nothing after a second, and the others begin in order
pub record AreSince (steps : List HeldStep) (second : ℕ) (rest : List HeldStep) : Type 0 where
  pub over : List HeldStep
  pub all : steps ≡ over ++ rest
  pub short : All (λ held. held.step.leave + 600 ≤ second) over
  pub rising : IsNonDecreasingBy (λ held. held.step.enter) rest

-- ---- what room there is

-- each list has as much room
pub record KeepsHoldRoom (old new : List StepList) : Type 0 where
  pub lists : length new ≡ length old
  pub capacity : (segment : Segment) → (list_of new segment).capacity ≡ (list_of old segment).capacity

-- each list has room for those of some steps that lie on its segment
abbrev pub HaveRoomForSteps : List Step → List StepList → Type 0
HaveRoomForSteps steps lists =
    (segment : Segment) → segment.0 < length lists → length (list_of lists segment).steps + count_by (λ s. (segment_of s.arc).0 == segment.0) steps ≤ (list_of lists segment).capacity

-- there are as many lists as in the store, and each has room for one step fewer than there are nodes
abbrev pub HasHoldRoom : Store → List StepList → Type 0
HasHoldRoom store lists = HasRoomBeside (length lists) (λ segment. (list_of lists segment).capacity) store.lists

-- some steps are among others
abbrev pub AreAmong : List HeldStep → List HeldStep → Type 0
AreAmong some steps = (rest : List HeldStep) × AreAsMany steps (rest ++ some)

-- the free windows, and the steps that leave them
pub record HeldBook : Type 0 where
  pub store : Store
  pub steps : List HeldStep
