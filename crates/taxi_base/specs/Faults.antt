-- Which step of a route given by hand fails first, and why; and why a segment may not be shut.
use Rattle.std.specs.Prelude.{ℕ, ◌≡◌, ◌+◌, ◌-◌, ◌⊎◌, Bool, true, not, nat_lt, nat_le, if◌then◌else◌, IsTrue, IsFalse, List, [], ◌∷◌, Option, Some, None, option_map, option_and_then, Contains}
use Rattle.std.specs.List.{list_any, find, range_with_len}
use Rattle.std.specs.Option.{option_map_or}
use Rattle.taxi_base.specs.declared.numbers.Segment.{Segment}
use Rattle.taxi_base.specs.declared.numbers.Arc.{Arc}
use Rattle.taxi_base.specs.declared.numbers.Class.{Class}
use Rattle.taxi_base.specs.declared.rows.Step.{Step}
use Rattle.taxi_base.specs.declared.rows.Span.{Span}
use Rattle.taxi_base.specs.declared.answers.Flight.{Flight}
use Rattle.taxi_base.specs.declared.answers.Party.{Party}
use Rattle.taxi_base.specs.declared.answers.StepCause.{StepCause}
use Rattle.taxi_base.specs.declared.answers.StepCause.TheVariants.{ClassBarred, BadTurn, TooFast, PastHorizon, Taken}
use Rattle.taxi_base.specs.declared.answers.StepFault.{StepFault}
use Rattle.taxi_base.specs.Airport.{Airport, layout_of, segment_of, permits, seconds}
use Rattle.taxi_base.specs.Windows.{Hold, blocks}
use Rattle.taxi_base.specs.Walks.{Conditions, conditions_among, free_among, hold_under}
use Rattle.taxi_base.specs.State.{State, name_precedes, holds_in, flight_holds, party_hold}

-- the first second of a span that is not free
abbrev pub first_taken : (ℕ → Bool) → Span → Option ℕ
first_taken free span = find (λ t. not (free t)) (range_with_len span.from (span.until - span.from))

-- of two names the one that stands before the other
abbrev pub first_name : Option (List ℕ) → Option (List ℕ) → Option (List ℕ)
first_name None b = b
first_name (Some a) None = Some a
first_name (Some a) (Some b) = if name_precedes b a then Some b else Some a

-- the first of the names of a kind; none where there is none
abbrev pub IsFirstOf : (List ℕ → Type 0) → Option (List ℕ) → Type 0
IsFirstOf IsOne None = (name : List ℕ) → IsOne name → ⊥
IsFirstOf IsOne (Some name) = IsOne name × ((other : List ℕ) → IsOne other → IsFalse (name_precedes other name))

-- the first name of a party, of a flight, and of a holder of either kind that holds a conflicting segment at a second
abbrev pub party_at : Airport → State → Segment → ℕ → Option (List ℕ)
party_at airport state s t = option_map (λ p. p.name) (find (λ p. blocks airport.conflicts s t (party_hold p)) state.parties)

abbrev pub flight_at : Airport → State → Segment → ℕ → Option (List ℕ)
flight_at airport state s t =
    option_map (λ f. f.name) (find (λ f. list_any (blocks airport.conflicts s t) (flight_holds airport f)) state.flights)

abbrev pub holder_at : Airport → State → Segment → ℕ → Option (List ℕ)
holder_at airport state s t = first_name (party_at airport state s t) (flight_at airport state s t)

-- A party or a flight of this name holds a conflicting segment at a second.
abbrev pub IsHolderAt : Airport → State → Segment → ℕ → List ℕ → Type 0
IsHolderAt airport state s t name =
    ((p : Party) × Contains state.parties p × (p.name ≡ name) × IsTrue (blocks airport.conflicts s t (party_hold p)))
    ⊎ ((f : Flight) × Contains state.flights f × (f.name ≡ name) × IsTrue (list_any (blocks airport.conflicts s t) (flight_holds airport f)))

-- it is one of these names, and none of them stands before it
pub record IsFirstHolder (airport : Airport) (state : State) (s : Segment) (t : ℕ) (name : List ℕ) : Type 0 where
  pub one : IsHolderAt airport state s t name
  pub first : (other : List ℕ) → IsHolderAt airport state s t other → IsFalse (name_precedes other name)

-- the first second of a hold at which its segment is taken, and by whom
abbrev pub taken_by : Airport → State → Hold → Option StepCause
taken_by airport state hold =
    option_and_then (λ t. option_map (λ name. Taken t name) (holder_at airport state hold.segment t))
    (first_taken (free_among airport (holds_in airport state) hold.segment) hold.span)

-- ---- routes

-- the conditions of a new flight: among all that are in force
abbrev pub conditions_in : Airport → Class → State → Conditions
conditions_in airport class state = conditions_among airport class (holds_in airport state)

-- the same of what a step holds
abbrev pub taken_cause : Airport → Class → State → Step → Option StepCause
taken_cause airport class state step = taken_by airport state (hold_under (conditions_in airport class state) step)

-- whether the turn from the arc before, if there is one, is permitted
abbrev pub may_follow : Airport → Option Arc → Arc → Bool
may_follow airport before arc = option_map_or (λ x. permits (layout_of airport) x arc) before true

-- Why a step fails, of several causes the first in this order; none where it does not fail: the class has no seconds
-- on the segment, the turn is not permitted, the step is too short, it ends past the horizon, or a second is taken.
abbrev pub cause_of : Airport → Class → State → Option Arc → Step → Option StepCause
cause_of airport class state before step =
    option_map_or
    (λ n.
    if not (may_follow airport before step.arc) then Some BadTurn
    else if nat_lt step.leave (step.enter + n) then Some TooFast
    else if nat_lt airport.horizon step.leave then Some PastHorizon
    else taken_cause airport class state step)
    (seconds airport class (segment_of step.arc))
    (Some ClassBarred)

-- the first step that fails, where the steps count from a number and come after an arc
abbrev pub fault_after : Airport → Class → State → ℕ → Option Arc → List Step → Option StepFault
fault_after airport class state number before [] = None
fault_after airport class state number before (s ∷ steps) =
    option_map_or (λ cause. Some (record { number = number; cause = cause })) (cause_of airport class state before s)
    (fault_after airport class state (number + 1) (Some s.arc) steps)

-- the first step of a route that fails, and why; the steps count from 1
unfoldable pub route_fault : Airport → Class → State → List Step → Option StepFault
route_fault airport class state steps = fault_after airport class state 1 None steps

-- ---- shutting a segment

-- Why a segment may not be shut for a span, of several causes the first in this order; none where it may: the span has no
-- second, it ends past the horizon, or a second is taken.
abbrev pub hold_cause : Airport → State → Hold → Option StepCause
hold_cause airport state hold =
    if nat_le hold.span.until hold.span.from then Some TooFast
    else if nat_lt airport.horizon hold.span.until then Some PastHorizon
    else taken_by airport state hold

-- the same, told as of a first step
unfoldable pub hold_fault : Airport → State → Hold → Option StepFault
hold_fault airport state hold = option_map (λ cause. record { number = 1; cause = cause }) (hold_cause airport state hold)
