-- A late flight is repaired in the same way at two such airports.
use Rattle.std.proofs.Common.{◌≡◌, ◌-◌, ◌&&◌, ◌||◌, not, nat_lt, ℕ, min, max, List, [], ◌∷◌, map, Bool, Option, Some, None, IsTrue, IsFalse, inl, inr, ap, subst}
use Rattle.std.specs.Prelude.{MatchOption, filter, flat_map, if◌then◌else◌}
use Rattle.std.specs.List.{list_any}
use Rattle.taxi_base.specs.declared.numbers.Segment.{Segment}
use Rattle.taxi_base.specs.declared.rows.Step.{Step}
use Rattle.taxi_base.specs.declared.answers.Flight.{Flight}
use Rattle.taxi_base.specs.declared.answers.Found.{Found}
use Rattle.taxi_base.specs.declared.answers.Request.{Request}
use Rattle.taxi_base.specs.declared.answers.Request.TheVariants as request
use Rattle.taxi_base.specs.Windows.{Hold}
use Rattle.taxi_base.specs.Walks.{Conditions, conditions_among}
use Rattle.taxi_base.specs.State.{State, flight_named, flight_holds, party_hold, holds_in, without}
use Rattle.taxi_base.specs.Late.{Delay, Meeting, prolonged_hold, IsFirstCommon, IsInTheWay, AreInTheWay, is_late, steps_kept, on_steps, base_state, request_sought, time_sought, AnswersTurn, IsTurnOfFlight, IsTurnOf, AreTurns, IsRepaired}
use Rattle.replies.specs.declared.block.Block.{Block}
use Rattle.replies.specs.Repairs.{IsRepairTold}
use Rattle.spare_rules.proofs.Pairs.{Pair, one, other, at, turned}
use Rattle.spare_rules.proofs.AnswersTo.{again-to, after-bound-to}
use Rattle.spare_rules.proofs.HoldersTo.{any-same, among}

first_common-to : (p : Pair) (hold : Hold) (holds : List Hold) (second : ℕ) → IsFirstCommon (one p) hold holds second → IsFirstCommon (other p) hold holds second
first_common-to p hold holds second is = record {
  within = is.within;
  common = subst IsTrue (any-same p hold.segment second holds) is.common;
  first = λ t from low. subst IsFalse (any-same p hold.segment t holds) (is.first t from low);
}

in_the_way-to : (p : Pair) (state : State) (delay : Delay) (meeting : Meeting) → IsInTheWay (one p) state delay meeting → IsInTheWay (other p) state delay meeting
in_the_way-to p state delay meeting (inl (party, in_force, named, common)) =
    inl (party, in_force, named, first_common-to p (prolonged_hold (one p) delay) (party_hold party ∷ []) meeting.second common)
in_the_way-to p state delay meeting (inr (flight, in_force, named, apart, common)) =
    inr (flight, in_force, named, apart, first_common-to p (prolonged_hold (one p) delay) (flight_holds (one p) flight) meeting.second common)

meetings-to : (p : Pair) (state : State) (delay : Delay) (meetings : List Meeting) → AreInTheWay (one p) state delay meetings → AreInTheWay (other p) state delay meetings
meetings-to p state delay meetings are = record {
  ordered = are.ordered;
  whole = λ meeting. (
    λ h. in_the_way-to p state delay meeting ((are.whole meeting).0 h),
    λ is. (are.whole meeting).1 (in_the_way-to (turned p) state delay meeting is),
  );
}

-- whether a hold of a segment in conflict has a second of another, by what conflicts
abbrev clash_by : (Segment → Segment → Bool) → Hold → Hold → Bool
clash_by conflicts a b = conflicts a.segment b.segment && nat_lt (max a.span.from b.span.from) (min a.span.until b.span.until)

base-same : (p : Pair) (state : State) (delay : Delay) → base_state (one p) state delay ≡ base_state (other p) state delay
base-same p state delay =
    ap (λ (conflicts : Segment → Segment → Bool). record {
      flights = flat_map (λ flight.
          if is_late delay flight || list_any (clash_by conflicts (prolonged_hold (one p) delay)) (flight_holds (one p) flight)
          then on_steps flight (steps_kept (one p) delay flight) else (flight ∷ [])) state.flights;
      parties = filter (λ q. not (clash_by conflicts (prolonged_hold (one p) delay) (party_hold q))) state.parties;
    }) (λ i s t. p.sets s t i)

turn-to : (p : Pair) (c : Conditions) (asked : Request) (kept : List Step) (time : ℕ) (found : Found) → AnswersTurn (at (one p) c) asked kept time found → AnswersTurn (at (other p) c) asked kept time found
turn-to p c request.Filed kept time found answers = answers
turn-to p c (request.Arrival from to asked hold) kept time found answers = again-to p c kept time to (request.Arrival from to asked hold) found answers
turn-to p c (request.Departure from to asked queue) kept time found answers = after-bound-to p c from to (asked - queue) asked time found answers

turn_of_flight-to : (p : Pair) (delay : Delay) (flight : Flight) (state : State) (told : Option Found) (after : State)
    → IsTurnOfFlight (one p) delay flight state told after → IsTurnOfFlight (other p) delay flight state told after
turn_of_flight-to p delay flight state None after turn = turn
turn_of_flight-to p delay flight state (Some found) after (answers, is) =
    let asked = request_sought flight.request (steps_kept (one p) delay flight) in
    let kept = steps_kept (one p) delay flight in
    let holds = holds_in (one p) (without flight.name state) in (
      subst (λ (c : Conditions). AnswersTurn c asked kept (time_sought delay flight) found) (among p flight.class holds)
          (turn-to p (conditions_among (one p) flight.class holds) asked kept (time_sought delay flight) found answers),
      is,
    )

turn_of-to : (p : Pair) (delay : Delay) (at_first : State) (name : List ℕ) (state : State) (told : Option Found) (after : State)
    → IsTurnOf (one p) delay at_first name state told after → IsTurnOf (other p) delay at_first name state told after
turn_of-to p delay at_first name state told after turn = go (flight_named name at_first.flights) turn where
  go : (o : Option Flight) → MatchOption o ((told ≡ None) × (after ≡ state)) (λ flight. IsTurnOfFlight (one p) delay flight state told after)
      → MatchOption o ((told ≡ None) × (after ≡ state)) (λ flight. IsTurnOfFlight (other p) delay flight state told after)
  go None turn = turn
  go (Some flight) turn = turn_of_flight-to p delay flight state told after turn

turns-to : (p : Pair) (delay : Delay) (at_first : State) (names : List (List ℕ)) (state : State) (tells : List (Option Found)) (after : State)
    → AreTurns (one p) delay at_first names state tells after → AreTurns (other p) delay at_first names state tells after
turns-to p delay at_first [] state [] after turns = turns
turns-to p delay at_first [] state (told ∷ later) after turns = turns
turns-to p delay at_first (name ∷ names) state [] after turns = turns
turns-to p delay at_first (name ∷ names) state (told ∷ later) after (next, turn, rest) =
    (next, turn_of-to p delay at_first name state told next turn, turns-to p delay at_first names next later after rest)

repaired-to : (p : Pair) (state : State) (delay : Delay) (meetings : List Meeting) (tells : List (Option Found)) (after : State)
    → IsRepaired (one p) state delay meetings tells after → IsRepaired (other p) state delay meetings tells after
repaired-to p state delay meetings tells after is = record {
  in_the_way = meetings-to p state delay meetings is.in_the_way;
  turns = subst (λ (s : State). AreTurns (other p) delay state (delay.flight.name ∷ map (λ m. m.name) meetings) s tells after) (base-same p state delay)
      (turns-to p delay state (delay.flight.name ∷ map (λ m. m.name) meetings) (base_state (one p) state delay) tells after is.turns);
}

pub repair-to : (p : Pair) (state : State) (name : List ℕ) (time until : ℕ) (block : Block) (after : State) → IsRepairTold (one p) state name time until block after → IsRepairTold (other p) state name time until block after
repair-to p state name time until block after is = record {
  delay = is.delay;
  known = is.known;
  meetings = is.meetings;
  tells = is.tells;
  repaired = repaired-to p state is.delay is.meetings is.tells after is.repaired;
  block_is = is.block_is;
}
