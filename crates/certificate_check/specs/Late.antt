-- How is the block of a late flight checked: who is in its way, what is in force at once, and what is found at the turns?
use Rattle.std.specs.Prelude.{ℕ, ◌≡◌, ◌+◌, ◌<◌, ◌≤◌, min, Bool, not, if◌then◌else◌, IsTrue, IsFalse, List, [], ◌∷◌, map, length, All, AllPairs, Contains, IsSomeAnd, Option, Some, None, MatchOption, Result, Ok, Err, ⊤}
use Rattle.std.specs.List.{list_any}
use Rattle.taxi_base.specs.declared.rows.Step.{Step}
use Rattle.taxi_base.specs.declared.answers.Flight.{Flight}
use Rattle.taxi_base.specs.declared.answers.Party.{Party}
use Rattle.taxi_base.specs.Airport.{Airport, layout_of, arc_exists, segment_of, seconds}
use Rattle.taxi_base.specs.Windows.{Hold, clash}
use Rattle.taxi_base.specs.State.{State, party_named, with_flight}
use Rattle.taxi_base.specs.Late.{Delay, Meeting, IsFirstCommon, IsInTheWay, meeting_precedes, AreInTheWay, is_late, soonest_leave, steps_kept, request_sought, time_sought}
use Rattle.replies.specs.declared.entries.Entry.{Entry}
use Rattle.replies.specs.declared.entries.Entry.TheVariants as entry
use Rattle.replies.specs.declared.block.Block.{Block}
use Rattle.replies.specs.declared.block.Block.TheVariants.{Route, NoRoute}
use Rattle.replies.specs.Repairs.{names_in_turn, is_dropped, IsDroppedAsDue, sought_on, sought_at_turn}
use Rattle.replies.specs.Sought.{Sought}
use Rattle.replies.specs.Turns.{Turn, after_told}
use Rattle.replies.specs.Passes.{KeepsSought, IsFirstOf}
use Rattle.transcripts.specs.declared.refused.CheckRefused.{CheckRefused}
use Rattle.transcripts.specs.declared.refused.CheckRefused.TheVariants.{Wrong, Memory}
use Rattle.certificate_check.specs.declared.late_form.LateFlight.{LateFlight}
use Rattle.certificate_check.specs.declared.late_order.Met.{Met}
use Rattle.certificate_check.specs.declared.late_turn.AtTurn.{AtTurn}
use Rattle.taxi_text.specs.declared.command.Command.{Command}
use Rattle.certificate_check.specs.Judged.{IsJudged}
use Rattle.certificate_check.specs.Entries.{turns_by}

-- the flight that is late, with the step that it is on and until when it stays
abbrev pub delay_in : LateFlight → Delay
delay_in late = record { flight = late.flight.now; begun = late.begun; time = late.time; until = late.until }

-- ---- who is in the way

-- the first second that a hold has in common with some of conflicting segments; none where they meet it nowhere
abbrev pub IsFirstIn : Airport → Hold → List Hold → Option ℕ → Type 0
IsFirstIn airport hold holds None = IsFalse (list_any (clash airport.conflicts hold) holds)
IsFirstIn airport hold holds (Some second) = IsFirstCommon airport hold holds second

-- of two seconds the sooner one
abbrev pub sooner : Option ℕ → Option ℕ → Option ℕ
sooner None other = other
sooner (Some first) None = Some first
sooner (Some first) (Some second) = Some (min first second)

-- from which second on the holder of a name is in the way; none where it is not
abbrev pub IsInWayFrom : Airport → State → Delay → List ℕ → Option ℕ → Type 0
IsInWayFrom airport state delay name None = (meeting : Meeting) → meeting.name ≡ name → IsInTheWay airport state delay meeting → ⊥
IsInWayFrom airport state delay name (Some second) =
    IsInTheWay airport state delay (record { second = second; name = name })
    × ((meeting : Meeting) → meeting.name ≡ name → IsInTheWay airport state delay meeting → meeting.second ≡ second)

abbrev pub meeting_in : Met → Meeting
meeting_in met = record { second = met.second; name = met.name }

-- it stands after the one before it, if there is one
abbrev pub ComesAfter : Option Met → Meeting → Type 0
ComesAfter None meeting = ⊤
ComesAfter (Some before) meeting = IsTrue (meeting_precedes (meeting_in before) meeting)

-- the holders of some names are in the way, in order
pub record AreInOrder (airport : Airport) (state : State) (delay : Delay) (names : List (List ℕ)) : Type 0 where
  pub meetings : List Meeting
  pub named : map (λ m. m.name) meetings ≡ names
  pub in_way : All (IsInTheWay airport state delay) meetings
  pub ordered : AllPairs (λ a b. IsTrue (meeting_precedes a b)) meetings

-- whoever is in the way is named
abbrev pub AreAllNamed : Airport → State → Delay → List (List ℕ) → Type 0
AreAllNamed airport state delay names = (meeting : Meeting) → IsInTheWay airport state delay meeting → Contains names meeting.name

-- ---- the form

-- the first entry is that of a name
abbrev pub IsToldFirst : List ℕ → List (List ℕ × Entry) → Type 0
IsToldFirst name [] = ⊥
IsToldFirst name (told ∷ entries) = told.0 ≡ name

-- whether an entry drops its holder exactly where it is to be dropped
abbrev pub drops_as_due : State → List ℕ × Entry → Bool
drops_as_due state (name, entry.Dropped) = is_dropped state name
drops_as_due state (name, told) = not (is_dropped state name)

-- entries tell of the late flight first, and then of all those in its way in order, and drop whom they are to drop
pub record TellInTurn (airport : Airport) (state : State) (delay : Delay) (entries : List (List ℕ × Entry)) : Type 0 where
  pub meetings : List Meeting
  pub in_the_way : AreInTheWay airport state delay meetings
  pub in_turn : map (λ told. told.0) entries ≡ names_in_turn delay meetings
  pub dropped : All (IsDroppedAsDue state) entries

-- ---- what is in force at once

-- a flight is on steps that its class can make
pub record IsOnSteps (airport : Airport) (flight : Flight) : Type 0 where
  pub some : 0 < length flight.steps
  pub arcs : All (λ step. IsTrue (arc_exists (layout_of airport) step.arc)) flight.steps
  pub lasts : All (λ step. IsSomeAnd (seconds airport flight.class (segment_of step.arc)) (λ n. step.enter + n ≤ step.leave)) flight.steps

-- when a flight leaves the last of the steps that it keeps
abbrev pub leave_kept : Airport → Delay → Flight → Step → ℕ
leave_kept airport delay flight begun = if is_late delay flight then delay.until else soonest_leave airport flight.class delay.time begun

abbrev pub with_flights : List Flight → State → State
with_flights [] state = state
with_flights (flight ∷ flights) state = with_flights flights (with_flight flight state)

-- ---- the turns

-- a flight at its turn, with the steps that it keeps
abbrev pub turn_in : Airport → Delay → Flight → AtTurn
turn_in airport delay flight = record {
  name = flight.name;
  class = flight.class;
  request = flight.request;
  kept = steps_kept airport delay flight;
  from_on = time_sought delay flight;
}

abbrev pub flight_in : AtTurn → Flight
flight_in turn = record { name = turn.name; class = turn.class; request = turn.request; steps = turn.kept }

-- what it seeks
abbrev pub sought_in : Airport → State → AtTurn → Sought
sought_in airport state turn = sought_on airport state (flight_in turn) turn.kept (request_sought turn.request turn.kept) turn.from_on

-- all rules after the form are kept, and the state is that afterwards; or this one is the first that is broken; or memory ran out
abbrev pub IsTurnChecked : Sought → Block → Result Unit CheckRefused → State → Type 0
IsTurnChecked s block (Ok done) after = IsFirstOf (λ rule. KeepsSought rule s block) None × (after ≡ after_told s block)
IsTurnChecked s block (Err (Wrong broken)) after = IsFirstOf (λ rule. KeepsSought rule s block) (Some broken)
IsTurnChecked s block (Err Memory) after = ⊤

-- what is found of an entry, by what the holder of its name had before the line
abbrev pub IsEntryChecked : Airport → State → Delay → List ℕ × Entry → State → Result Unit CheckRefused → State → Type 0
IsEntryChecked airport before delay (name, entry.Route second steps labels) old result new =
    MatchOption (sought_at_turn airport delay before name old) ⊥ (λ s. IsTurnChecked s (Route name second steps labels) result new)
IsEntryChecked airport before delay (name, entry.NoRoute labels) old result new =
    MatchOption (sought_at_turn airport delay before name old) ⊥ (λ s. IsTurnChecked s (NoRoute labels) result new)
IsEntryChecked airport before delay (name, entry.Dropped) old result new = (result ≡ Ok tt) × (new ≡ old)

-- the searches of entries, each for the flight that had its name before the line
abbrev pub turns_late : Airport → State → Delay → State → List (List ℕ × Entry) → List Turn
turns_late airport before delay state entries = turns_by (sought_at_turn airport delay before) state entries

-- no work party of some has the name of a flight that was in force before
abbrev pub AreAlone : State → List Party → Type 0
AreAlone before parties = All (λ f. party_named f.name parties ≡ None) before.flights

-- a block is judged by the state before the line, and this is the state afterwards where it passes; else that before is to be put back
abbrev pub IsRepairJudged : Airport → State → Command → Block → Result Unit CheckRefused → State → Type 0
IsRepairJudged airport before command block (Ok done) after = IsJudged airport command block before (Ok tt) after
IsRepairJudged airport before command block (Err why) after = IsJudged airport command block before (Err why) before
