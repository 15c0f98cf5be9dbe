-- Among the same holders the same seconds are free at two such airports, and whoever stands in the way is the same. So are the refusals.
use Rattle.std.proofs.Common.{◌≡◌, ◌+◌, ◌++◌, ◌<◌, ◌&&◌, Bool, not, nat_lt, ℕ, List, [], ◌∷◌, length, get_or, Option, Some, None, IsTrue, inl, inr, refl, sym, ap, ap₂, subst, arith}
use Rattle.std.specs.Prelude.{⊤, MatchOption, find, is_some, nat_le, option_map, option_and_then, if◌then◌else◌}
use Rattle.std.specs.List.{list_any}
use Rattle.std.specs.Option.{option_map_or}
use Rattle.std.proofs.lemmas.List.{length-map, get_or_past}
use Rattle.std.proofs.lemmas.Bool.{cases_lt}
use Rattle.taxi_base.specs.declared.numbers.Arc.{Arc}
use Rattle.taxi_base.specs.declared.numbers.Class.{Class}
use Rattle.taxi_base.specs.declared.numbers.Segment.{Segment}
use Rattle.taxi_base.specs.declared.rows.HeldRow.{HeldRow}
use Rattle.taxi_base.specs.declared.rows.Step.{Step}
use Rattle.taxi_base.specs.declared.answers.Refusal.{Refusal}
use Rattle.taxi_base.specs.declared.answers.Refusal.TheVariants as refusal
use Rattle.taxi_base.specs.declared.answers.StepCause.{StepCause}
use Rattle.taxi_base.specs.declared.answers.StepCause.TheVariants.{BadTurn, TooFast, PastHorizon, Taken}
use Rattle.taxi_base.specs.declared.answers.StepFault.{StepFault}
use Rattle.taxi_base.specs.Airport.{Airport, segment_of, ends, conflict, seconds, seconds_in, times_of, node_named, class_named, segment_named, arc_named}
use Rattle.taxi_base.specs.Windows.{Hold, span_has, blocks, is_free, windows_before}
use Rattle.taxi_base.specs.Walks.{conditions_among, free_among, hold_under}
use Rattle.taxi_base.specs.State.{State, flight_holds, party_hold, holds_in}
use Rattle.taxi_base.specs.Faults.{first_taken, first_name, party_at, flight_at, holder_at, taken_by, conditions_in, may_follow, cause_of, fault_after, route_fault, hold_fault}
use Rattle.taxi_base.specs.Reports.{AreHeldRows}
use Rattle.taxi_text.specs.declared.command.Filed.{Filed}
use Rattle.taxi_text.specs.declared.command.Command.{Command}
use Rattle.taxi_text.specs.declared.command.Command.TheVariants as command
use Rattle.taxi_text.specs.declared.command.BatchRequest.{BatchRequest}
use Rattle.taxi_text.specs.declared.command.BatchRequest.TheVariants as requested
use Rattle.replies.specs.Refusals.{in_force_or_before, first_of, unknown_class, unknown_arc, unknown_segment, in_force, full, full_with, step_fails, first_refusal, tests_of_words, tests_of_request, tests_of_requests}
use Rattle.replies.specs.Asked.{route_filed, party_of, asked_in}
use Rattle.spare_rules.proofs.Pairs.{Pair, one, other, at, IsOpen, turn-to}

-- ---- which seconds are free

sets-same : (p : Pair) → conflict p.sets_one ≡ conflict p.sets_other
sets-same p = λ i s t. p.sets s t i

pub any-same : (p : Pair) (s : Segment) (t : ℕ) (holds : List Hold) → list_any (blocks p.sets_one s t) holds ≡ list_any (blocks p.sets_other s t) holds
any-same p s t holds = ap (λ (k : Segment → Segment → Bool). list_any (λ (h : Hold). k s h.segment && span_has h.span t) holds) (sets-same p)

pub second-same : (p : Pair) (holds : List Hold) (s : Segment) (t : ℕ) → is_free p.sets_one p.base.horizon holds s t ≡ is_free p.sets_other p.base.horizon holds s t
second-same p holds s t = ap (λ b. nat_lt t p.base.horizon && not b) (any-same p s t holds)

pub free-same : (p : Pair) (holds : List Hold) (s : Segment) (t : ℕ) → free_among (one p) holds s t ≡ free_among (other p) holds s t
free-same p holds s t = ap (λ b. nat_lt s.0 (length p.base.segments) && b) (second-same p holds s t)

pub among : (p : Pair) (class : Class) (holds : List Hold) → at (other p) (conditions_among (one p) class holds) ≡ conditions_among (other p) class holds
among p class holds = λ i. record (conditions_among (other p) class holds) { free = λ s t. free-same p holds s t i }

-- ---- who stands in the way

party-same : (p : Pair) (state : State) (s : Segment) (t : ℕ) → party_at (one p) state s t ≡ party_at (other p) state s t
party-same p state s t = ap (λ (k : Segment → Segment → Bool). option_map (λ q. q.name) (find (λ q. k s (party_hold q).segment && span_has (party_hold q).span t) state.parties)) (sets-same p)

flight-same : (p : Pair) (state : State) (s : Segment) (t : ℕ) → flight_at (one p) state s t ≡ flight_at (other p) state s t
flight-same p state s t =
    ap (λ (k : Segment → Segment → Bool). option_map (λ f. f.name) (find (λ f. list_any (λ (h : Hold). k s h.segment && span_has h.span t) (flight_holds (one p) f)) state.flights)) (sets-same p)

holder-same : (p : Pair) (state : State) (s : Segment) (t : ℕ) → holder_at (one p) state s t ≡ holder_at (other p) state s t
holder-same p state s t = ap₂ first_name (party-same p state s t) (flight-same p state s t)

taken-same : (p : Pair) (state : State) (hold : Hold) → taken_by (one p) state hold ≡ taken_by (other p) state hold
taken-same p state hold =
    λ i. option_and_then (λ t. option_map (λ name. Taken t name) (holder-same p state hold.segment t i))
    (first_taken (λ t. free-same p (holds_in (one p) state) hold.segment t i) hold.span)

hold_fault-same : (p : Pair) (state : State) (hold : Hold) → hold_fault (one p) state hold ≡ hold_fault (other p) state hold
unfolding hold_fault
hold_fault-same p state hold =
    ap (λ (cause : Option StepCause).
    option_map (λ cause. record { number = 1; cause = cause })
    (if nat_le hold.span.until hold.span.from then Some TooFast else (if nat_lt p.base.horizon hold.span.until then Some PastHorizon else cause)))
    (taken-same p state hold)

-- ---- the faults of a route

times-class : (airport : Airport) (class : Class) (s : Segment) → IsTrue (is_some (seconds airport class s)) → class.0 < length airport.classes
unfolding seconds_in
times-class airport class s some =
    elim (cases_lt class.0 (length airport.classes)) [
      | inl low ↦ low
      | inr past ↦
          let none : get_or (times_of airport) class.0 [] ≡ [] = get_or_past (times_of airport) class.0 [] (omega (arith, past, length-map airport.classes (λ row. row.seconds))) in
          absurd (let no = rw none at some in cc no)
    ]

times-open : (p : Pair) (class : Class) (arc : Arc) → IsTrue (is_some (seconds p.base class (segment_of arc))) → IsOpen p class arc
times-open p class arc some = (times-class p.base class (segment_of arc) some, some)

-- the class can take the arc before, where there is one
abbrev WasTaken : Pair → Class → Option Arc → Type 0
WasTaken p class before = MatchOption before ⊤ (λ x. IsOpen p class x)

may-same : (p : Pair) (class : Class) (before : Option Arc) (arc : Arc) → WasTaken p class before → IsOpen p class arc → may_follow (one p) before arc ≡ may_follow (other p) before arc
may-same p class None arc was goes = refl
may-same p class (Some x) arc was goes = turn-to p class x arc was goes

cause-same : (p : Pair) (class : Class) (state : State) (before : Option Arc) (step : Step) → WasTaken p class before → cause_of (one p) class state before step ≡ cause_of (other p) class state before step
cause-same p class state before step was = go (seconds p.base class (segment_of step.arc)) refl where
  go : (o : Option ℕ) → seconds p.base class (segment_of step.arc) ≡ o → cause_of (one p) class state before step ≡ cause_of (other p) class state before step
  go None none = rw none refl
  go (Some n) some =
      let may = may-same p class before step.arc was (times-open p class step.arc (rw some refl)) in
      let taken = taken-same p state (hold_under (conditions_in (one p) class state) step) in
      rw some
      (λ i. if not (may i) then Some BadTurn
      else (if nat_lt step.leave (step.enter + n) then Some TooFast
      else (if nat_lt p.base.horizon step.leave then Some PastHorizon
      else taken i)))

fault-same : (p : Pair) (class : Class) (state : State) (number : ℕ) (before : Option Arc) (steps : List Step) → WasTaken p class before
    → fault_after (one p) class state number before steps ≡ fault_after (other p) class state number before steps
fault-same p class state number before [] was = refl
fault-same p class state number before (s ∷ steps) was =
    go (seconds p.base class (segment_of s.arc)) refl (λ taken. fault-same p class state (number + 1) (Some s.arc) steps taken)
  where
    told : StepCause → Option StepFault
    told cause = Some (record { number = number; cause = cause })

    go : (o : Option ℕ) → seconds p.base class (segment_of s.arc) ≡ o
        → (IsOpen p class s.arc → fault_after (one p) class state (number + 1) (Some s.arc) steps ≡ fault_after (other p) class state (number + 1) (Some s.arc) steps)
        → option_map_or told (cause_of (one p) class state before s) (fault_after (one p) class state (number + 1) (Some s.arc) steps)
        ≡ option_map_or told (cause_of (other p) class state before s) (fault_after (other p) class state (number + 1) (Some s.arc) steps)
    go None none later = rw none refl
    go (Some n) some later =
        ap₂ (λ (cause : Option StepCause) (rest : Option StepFault). option_map_or told cause rest) (cause-same p class state before s was) (later (times-open p class s.arc (rw some refl)))

route-same : (p : Pair) (class : Class) (state : State) (steps : List Step) → route_fault (one p) class state steps ≡ route_fault (other p) class state steps
unfolding route_fault
route-same p class state steps = fault-same p class state 1 None steps tt

-- ---- refusals

filed-same : (p : Pair) (filed : Filed) → route_filed (one p) filed ≡ route_filed (other p) filed
unfolding segment_named arc_named ends
filed-same p filed = refl

step_fails-same : (p : Pair) (state : State) (filed : Filed) → step_fails (one p) state filed ≡ step_fails (other p) state filed
unfolding segment_named class_named arc_named ends
step_fails-same p state filed =
    λ i. option_and_then (λ class. option_and_then (λ steps. option_map (λ fault. refusal.Step fault) (route-same p class state steps i)) (route_filed (one p) filed)) (class_named (one p) filed.class)

words-same : (p : Pair) (request : BatchRequest) → tests_of_words (one p) request ≡ tests_of_words (other p) request
unfolding node_named class_named
words-same p (requested.Arrival asked) = refl
words-same p (requested.Departure asked) = refl

requests-same : (p : Pair) (state : State) (before requests : List BatchRequest) → tests_of_requests (one p) state before requests ≡ tests_of_requests (other p) state before requests
requests-same p state before [] = refl
requests-same p state before (request ∷ later) = λ i. (tests_of_requests-first i) ++ (requests-same p state (before ++ request ∷ []) later i) where
  tests_of_requests-first : tests_of_request (one p) state before request ≡ tests_of_request (other p) state before request
  tests_of_requests-first = ap (λ (l : List (Option Refusal)). in_force_or_before state before (asked_in request).flight ∷ l) (words-same p request)

pub refusal-same : (p : Pair) (state : State) (c : Command) → first_refusal (one p) state c ≡ first_refusal (other p) state c
unfolding node_named class_named segment_named arc_named ends
refusal-same p state (command.File filed) =
    ap (λ (o : Option Refusal). first_of (in_force state filed.flight ∷ unknown_class (one p) filed.class ∷ unknown_arc (one p) filed ∷ full state ∷ o ∷ [])) (step_fails-same p state filed)
refusal-same p state (command.Arrival asked) = refl
refusal-same p state (command.Departure asked) = refl
refusal-same p state (command.Cancel flight) = refl
refusal-same p state (command.Reroute flight time) = refl
refusal-same p state (command.Divert flight time node) = refl
refusal-same p state (command.Windows segment) = refl
refusal-same p state (command.Occupancy segment) = refl
refusal-same p state command.Timetable = refl
refusal-same p state (command.Work shut) =
    λ i. first_of (in_force state shut.name ∷ unknown_segment (one p) shut.segment ∷ full state
    ∷ option_and_then (λ segment. option_map (λ fault. refusal.Step fault) (hold_fault-same p state (party_hold (party_of shut segment)) i)) (segment_named (one p) shut.segment) ∷ [])
refusal-same p state (command.WorkDone name) = refl
refusal-same p state (command.ArrivalAny asked) = refl
refusal-same p state (command.DepartureAny asked) = refl
refusal-same p state (command.Batch requests) = ap (λ (l : List (Option Refusal)). first_of (l ++ full_with (length requests) state ∷ [])) (requests-same p state [] requests)
refusal-same p state (command.Late flight time until) = refl

-- ---- what is told of a segment

pub held-to : (p : Pair) (state : State) (segment : Segment) (rows : List HeldRow) → AreHeldRows (one p) state segment rows → AreHeldRows (other p) state segment rows
held-to p state segment rows are = record {
  ordered = are.ordered;
  whole = λ row. (
    λ h. let of = (are.whole row).0 h in (of.0, subst IsTrue (p.sets segment row.segment) of.1),
    λ of. (are.whole row).1 (of.0, subst IsTrue (sym (p.sets segment row.segment)) of.1),
  );
}

pub windows-same : (p : Pair) (state : State) (segment : Segment)
    → windows_before (is_free p.sets_one p.base.horizon (holds_in (one p) state) segment) p.base.horizon ≡ windows_before (is_free p.sets_other p.base.horizon (holds_in (other p) state) segment) p.base.horizon
windows-same p state segment = λ i. windows_before (λ t. second-same p (holds_in (one p) state) segment t i) p.base.horizon
