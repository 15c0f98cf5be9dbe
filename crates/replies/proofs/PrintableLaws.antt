-- The blocks that are due have texts, in an airport that keeps the rules: no number in them is past the horizon.
use Rattle.std.proofs.Common.{◌≡◌, ℕ, ◌+◌, ◌<◌, ◌≤◌, cond, not, nat_lt, Bool, true, false, List, [], ◌∷◌, ◌++◌, length, Option, Some, None, option_map, option_and_then, IsFalse, refl, sym, subst, arith, inl, inr}
use Rattle.std.specs.Prelude.{IfSome, MatchOption, All, nat_le}
use Rattle.std.specs.Option.{option_map_or}
use Rattle.std.proofs.lemmas.Bool.{and_parts, cases_lt, lt-ltb, le-ltb, leb-true, ltb-true}
use Rattle.std.proofs.lemmas.List.Elements.{All-head, All-tail, All-weaker, All-contains}
use Rattle.taxi_base.specs.declared.numbers.Class.{Class}
use Rattle.taxi_base.specs.declared.numbers.Arc.{Arc}
use Rattle.taxi_base.specs.declared.numbers.Node.{Node}
use Rattle.taxi_base.specs.declared.numbers.Segment.{Segment}
use Rattle.taxi_base.specs.declared.rows.Step.{Step}
use Rattle.taxi_base.specs.declared.answers.StepCause.{StepCause}
use Rattle.taxi_base.specs.declared.answers.StepCause.TheVariants.{ClassBarred, BadTurn, TooFast, PastHorizon, Taken}
use Rattle.taxi_base.specs.declared.answers.StepFault.{StepFault}
use Rattle.taxi_base.specs.declared.answers.Flight.{Flight}
use Rattle.taxi_base.specs.declared.answers.Found.{Found}
use Rattle.taxi_base.specs.declared.answers.Found.TheVariants as found
use Rattle.taxi_base.specs.declared.answers.Chosen.{Chosen}
use Rattle.taxi_base.specs.declared.answers.Chosen.TheVariants as chosen
use Rattle.taxi_base.specs.declared.answers.Request.{Request}
use Rattle.taxi_base.specs.declared.answers.Refusal.{Refusal}
use Rattle.taxi_base.specs.declared.answers.Refusal.TheVariants as refusal
use Rattle.taxi_base.specs.Airport.{Airport, IsWellFormed, segment_of, seconds, class_named, node_named, segment_named, is_runway, is_stand}
use Rattle.taxi_base.specs.Windows.{Hold}
use Rattle.taxi_base.specs.Walks.{Conditions, free_among, hold_under, IsFeasibleWalk, Meets, begin_of, end_of}
use Rattle.taxi_base.specs.State.{State, flight_named, with_flight, with_route, without, party_hold, holds_in, conditions_of, step_begun, steps_done, IsSound}
use Rattle.taxi_base.specs.Again.{retargeted, IsTarget, AnswersAgain}
use Rattle.taxi_base.specs.Faults.{first_taken, holder_at, taken_by, conditions_in, may_follow, cause_of, fault_after, route_fault, taken_cause, hold_cause, hold_fault}
use Rattle.taxi_base.proofs.AgainLaws.{begun-parts}
use Rattle.taxi_base.proofs.FaultLaws.{first_taken-Some, route_fault-None}
use Rattle.taxi_base.proofs.KeptSteps.{seam}
use Rattle.taxi_base.proofs.WalkLaws.{conditions_among-bounded, Meets-IsFeasibleWalk}
use Rattle.taxi_text.specs.declared.command.BatchRequest.{BatchRequest}
use Rattle.taxi_text.specs.declared.command.BatchRequest.TheVariants as requested
use Rattle.taxi_text.specs.declared.command.Filed as filing
use Rattle.taxi_text.specs.declared.command.Shut.{Shut}
use Rattle.taxi_text.specs.declared.command.Command.{Command}
use Rattle.taxi_text.specs.declared.command.Command.TheVariants as command
use Rattle.taxi_text.specs.Commands.{command_of}
use Rattle.replies.specs.declared.block.Block.{Block}
use Rattle.replies.specs.declared.block.Block.TheVariants.{Refused, Filed, Cancelled, Route, NoRoute, Windows, Occupancy, Timetable, Batch, Late}
use Rattle.replies.specs.declared.entries.Entry.{Entry}
use Rattle.replies.specs.declared.entries.Entry.TheVariants as entry
use Rattle.replies.specs.Printable.{IsShort, IsName, IsPrintableCause, IsPrintableRefusal, IsPrintableWindow, IsPrintableEntry, IsPrintable}
use Rattle.replies.specs.Asked.{route_filed, party_of, IsInGrammar, Choice, request_for, arrival_any_named, departure_any_named, AnswersChoice}
use Rattle.replies.specs.Refusals.{refused_if, first_of, of_flight, not_routed, not_arrival, already_done, already_moving, not_moving, not_late, past_end, in_force, unknown_class, unknown_node, unknown_node_of, not_all, no_runway, no_stand, unknown_segment, unknown_arc, not_in_force, not_at_work, full, step_fails, hold_fails, is_filed, is_departure, full_with, in_force_or_before, tests_of_requests, first_refusal}
use Rattle.replies.specs.CarriedOut.{IsOf, filed_reply, IsFiled, second_of, found_reply, routed_flight, chosen_reply, IsRoutedToOne, IsRoutedAgain, shut_reply, opened_reply, cancelled_reply, windows_among, windows_reply, occupancy_reply, timetable_reply, IsCarriedOut}
use Rattle.replies.specs.Replies.{refused, IsDueTo, IsDue, HaveNames, IsRouteIn, DoesEntry, DoInTurn, DoesAsItSays}
use Rattle.replies.proofs.FiledLaws.{filed_steps-length, filed_steps-arcs, filed_steps-joined}
use Rattle.replies.proofs.FlightLaws.{flight_named-there}
use Rattle.replies.proofs.HolderNames.{holder_at-name, with_flight-names, with_party-names, without-names}
use Rattle.replies.proofs.FoundLaws.{walk-end, walk-begin, found_again-meets, found_again-printable, chosen-printable}
use Rattle.replies.proofs.BatchPrintable.{batch-printable}
use Rattle.replies.proofs.LatePrintable.{late-printable, repair-names}
use Rattle.replies.proofs.RoutePrintable.{number, printable-by, route-printable, routed-printable}
use Rattle.replies.proofs.ChoiceNames.{chosen-meets}
use Rattle.replies.proofs.GrammarLaws.{command_of-in_grammar}
use Rattle.replies.proofs.RefusalLaws.{none-fails, file-does_not_fail}
use Rattle.replies.proofs.ReportsTold.{held-count, held-printable, timetable-count, timetable-printable}
use Rattle.replies.proofs.WindowsTold.{windows_among-by, windows_among-count, segment_named-exists}

module _ (airport : Airport) (state : State) (well : IsWellFormed airport) (names : HaveNames state) (sound : IsSound airport state) where
  -- ---- a step that fails

  taken-printable : (hold : Hold) → hold.span.until ≤ airport.horizon → IfSome (taken_by airport state hold) IsPrintableCause
  taken-printable hold by = go (first_taken (free_among airport (holds_in airport state) hold.segment) hold.span) refl where
    named : (t : ℕ) → IsShort t → (o : Option (List ℕ)) → IfSome o IsName → IfSome (option_map (λ name. Taken t name) o) IsPrintableCause
    named t n None name = tt
    named t n (Some by) name = (n, name)

    go : (o : Option ℕ) → first_taken (free_among airport (holds_in airport state) hold.segment) hold.span ≡ o
        → IfSome (option_and_then (λ t. option_map (λ name. Taken t name) (holder_at airport state hold.segment t)) o) IsPrintableCause
    go None e = tt
    go (Some t) e =
        let at = first_taken-Some (free_among airport (holds_in airport state) hold.segment) hold.span t e in
        named t (number airport well t (omega (arith, at.1, by))) (holder_at airport state hold.segment t) (holder_at-name airport state hold.segment t names)

  or-cause : (test : Bool) (cause : StepCause) → IsPrintableCause cause → (o : Option StepCause) → IfSome o IsPrintableCause
      → IfSome (cond test (Some cause) o) IsPrintableCause
  or-cause true cause fine o others = fine
  or-cause false cause fine o others = others

  cause-printable : (class : Class) (before : Option Arc) (step : Step) → IfSome (cause_of airport class state before step) IsPrintableCause
  cause-printable class before step = go (seconds airport class (segment_of step.arc)) where
    taken : IfSome (taken_cause airport class state step) IsPrintableCause
    taken = taken-printable (hold_under (conditions_in airport class state) step) (omega arith)

    go : (o : Option ℕ) → IfSome (option_map_or
        (λ n. cond (not (may_follow airport before step.arc)) (Some BadTurn) (cond (nat_lt step.leave (step.enter + n)) (Some TooFast)
        (cond (nat_lt airport.horizon step.leave) (Some PastHorizon) (taken_cause airport class state step)))) o (Some ClassBarred)) IsPrintableCause
    go None = tt
    go (Some n) =
        or-cause (not (may_follow airport before step.arc)) BadTurn tt _
        (or-cause (nat_lt step.leave (step.enter + n)) TooFast tt _
        (or-cause (nat_lt airport.horizon step.leave) PastHorizon tt (taken_cause airport class state step) taken))

  abbrev IsFaultFrom : ℕ → ℕ → StepFault → Type 0
  IsFaultFrom first count fault = (first ≤ fault.number) × (fault.number < first + count) × IsPrintableCause fault.cause

  fault-printable : (class : Class) (first : ℕ) (before : Option Arc) (steps : List Step)
      → IfSome (fault_after airport class state first before steps) (IsFaultFrom first (length steps))
  fault-printable class first before [] = tt
  fault-printable class first before (s ∷ steps) =
      go (cause_of airport class state before s) (cause-printable class before s)
      (later (fault_after airport class state (first + 1) (Some s.arc) steps) (fault-printable class (first + 1) (Some s.arc) steps))
    where
      later : (o : Option StepFault) → IfSome o (IsFaultFrom (first + 1) (length steps)) → IfSome o (IsFaultFrom first (length (s ∷ steps)))
      later None h = tt
      later (Some fault) h = (omega (arith, h.0), omega (arith, h.1), h.2)

      go : (o : Option StepCause) → IfSome o IsPrintableCause
          → IfSome (fault_after airport class state (first + 1) (Some s.arc) steps) (IsFaultFrom first (length (s ∷ steps)))
          → IfSome (option_map_or (λ cause. Some (record { number = first; cause = cause })) o (fault_after airport class state (first + 1) (Some s.arc) steps)) (IsFaultFrom first (length (s ∷ steps)))
      go None h others = others
      go (Some cause) h others = (omega arith, omega arith, h)

  hold_cause-printable : (hold : Hold) → IfSome (hold_cause airport state hold) IsPrintableCause
  hold_cause-printable hold = or-cause (nat_le hold.span.until hold.span.from) TooFast tt _ in_span where
    in_span : IfSome (cond (nat_lt airport.horizon hold.span.until) (Some PastHorizon) (taken_by airport state hold)) IsPrintableCause
    in_span = elim (cases_lt airport.horizon hold.span.until) [
      | inl past ↦ rw (lt-ltb _ _ past) tt
      | inr in_time ↦ rw (le-ltb _ _ in_time) (taken-printable hold in_time)
    ]

  -- ---- refusals

  abbrev IsFine : Option Refusal → Type 0
  IsFine o = IfSome o IsPrintableRefusal

  first-fine : (o : Option Refusal) (tests : List (Option Refusal)) → IsFine o → IsFine (first_of tests) → IsFine (first_of (o ∷ tests))
  first-fine None tests one others = others
  first-fine (Some why) tests one others = one

  if-fine : (test : Bool) (why : Refusal) → IsPrintableRefusal why → IsFine (refused_if test why)
  if-fine true why fine = fine
  if-fine false why fine = tt

  flight-fine : (name : List ℕ) (test : Flight → Option Refusal)
      → ((flight : Flight) → IsFeasibleWalk (conditions_of airport state flight) flight.steps → IsFine (test flight)) → IsFine (of_flight state name test)
  flight-fine name test each = go (flight_named name state.flights) refl where
    go : (o : Option Flight) → flight_named name state.flights ≡ o → IsFine (option_and_then test o)
    go None e = tt
    go (Some flight) e =
        each flight (All-contains (λ f. IsFeasibleWalk (conditions_of airport state f) f.steps) state.flights flight sound.feasible.walks (flight_named-there name state.flights flight e))

  routed-fine : (name : List ℕ) → IsFine (of_flight state name not_routed)
  routed-fine name = flight-fine name not_routed (λ flight walk. if-fine (is_filed flight.request) refusal.NotRouted tt)

  arrival-fine : (name : List ℕ) → IsFine (of_flight state name not_arrival)
  arrival-fine name = flight-fine name not_arrival (λ flight walk. if-fine (is_departure flight.request) refusal.NotArrival tt)

  done-fine : (name : List ℕ) (time : ℕ) → IsFine (of_flight state name (already_done time))
  done-fine name time =
      flight-fine name (already_done time) (λ flight walk.
      if-fine _ (refusal.AlreadyDone (end_of flight.steps)) (number airport well (end_of flight.steps) (walk-end (conditions_of airport state flight) flight.steps walk)))

  moving-fine : (name : List ℕ) (time : ℕ) → IsFine (of_flight state name (already_moving time))
  moving-fine name time =
      flight-fine name (already_moving time) (λ flight walk.
      if-fine _ (refusal.AlreadyMoving (begin_of flight.steps)) (number airport well (begin_of flight.steps) (walk-begin (conditions_of airport state flight) flight.steps walk)))

  -- of a flight that is late
  begun-fine : (name : List ℕ) (time : ℕ) → IsFine (of_flight state name (not_moving time))
  begun-fine name time =
      flight-fine name (not_moving time) (λ flight walk.
      if-fine _ (refusal.NotMoving (begin_of flight.steps)) (number airport well (begin_of flight.steps) (walk-begin (conditions_of airport state flight) flight.steps walk)))

  late-fine : (name : List ℕ) (time until : ℕ) → IsFine (of_flight state name (not_late time until))
  late-fine name time until = flight-fine name (not_late time until) (λ flight walk. go flight walk (step_begun time flight.steps) refl) where
    go : (flight : Flight) → IsFeasibleWalk (conditions_of airport state flight) flight.steps → (o : Option Step) → step_begun time flight.steps ≡ o
        → IsFine (option_and_then (λ begun. refused_if (nat_le until begun.leave) (refusal.NotLate begun.leave)) o)
    go flight walk None e = tt
    go flight walk (Some begun) e =
        let c : Conditions = conditions_of airport state flight in
        let parts = begun-parts time flight.steps begun e in
        if-fine _ (refusal.NotLate begun.leave) (number airport well begun.leave (seam c (steps_done time flight.steps) begun parts.0 (subst (IsFeasibleWalk c) parts.1 walk)).in_time)

  route-fine : (class : Class) (steps : List Step) → length steps ≤ 256 → IsFine (option_map (λ fault. refusal.Step fault) (route_fault airport class state steps))
  unfolding route_fault
  route-fine class steps few = of_fault (fault_after airport class state 1 None steps) (fault-printable class 1 None steps) where
    of_fault : (o : Option StepFault) → IfSome o (IsFaultFrom 1 (length steps)) → IsFine (option_map (λ fault. refusal.Step fault) o)
    of_fault None h = tt
    of_fault (Some fault) h = ((h.0, omega (arith, h.1, few)), h.2)

  step-fine : (filed : filing.Filed) → length filed.steps ≤ 256 → IsFine (step_fails airport state filed)
  step-fine filed few = of_class (class_named airport filed.class) where
    of_steps : (class : Class) (o : Option (List Step)) → route_filed airport filed ≡ o
        → IsFine (option_and_then (λ steps. option_map (λ fault. refusal.Step fault) (route_fault airport class state steps)) o)
    of_steps class None e = tt
    of_steps class (Some steps) e = route-fine class steps (omega (arith, few, filed_steps-length airport filed.start filed.steps steps e))

    of_class : (o : Option Class)
        → IsFine (option_and_then (λ class. option_and_then (λ steps. option_map (λ fault. refusal.Step fault) (route_fault airport class state steps)) (route_filed airport filed)) o)
    of_class None = tt
    of_class (Some class) = of_steps class (route_filed airport filed) refl

  shut-fine : (hold : Hold) → IsFine (option_map (λ fault. refusal.Step fault) (hold_fault airport state hold))
  unfolding hold_fault
  shut-fine hold = of_cause (hold_cause airport state hold) (hold_cause-printable hold) where
    of_cause : (o : Option StepCause) → IfSome o IsPrintableCause → IsFine (option_map (λ fault. refusal.Step fault) (option_map (λ cause. record { number = 1; cause = cause }) o))
    of_cause None h = tt
    of_cause (Some cause) h = ((omega arith, omega arith), h)

  hold-fine : (shut : Shut) → IsFine (hold_fails airport state shut)
  hold-fine shut = of_segment (segment_named airport shut.segment) where
    of_segment : (o : Option Segment)
        → IsFine (option_and_then (λ s. option_map (λ fault. refusal.Step fault) (hold_fault airport state (party_hold (party_of shut s)))) o)
    of_segment None = tt
    of_segment (Some s) = shut-fine (party_hold (party_of shut s))

  -- of the requests of a batch, and of what is tried after them
  requests-fine : (before requests : List BatchRequest) (more : List (Option Refusal)) → IsFine (first_of more) → IsFine (first_of (tests_of_requests airport state before requests ++ more))
  requests-fine before [] more fine = fine
  requests-fine before (requested.Arrival asked ∷ later) more fine =
      first-fine (in_force_or_before state before asked.flight) _ (if-fine _ _ tt) (first-fine (unknown_class airport asked.class) _ (if-fine _ _ tt)
      (first-fine (unknown_node airport asked.from) _ (if-fine _ _ tt) (first-fine (unknown_node airport asked.to) _ (if-fine _ _ tt) (first-fine (no_runway airport asked.from) _ (if-fine _ _ tt)
      (first-fine (no_stand airport asked.to) _ (if-fine _ _ tt) (requests-fine (before ++ requested.Arrival asked ∷ []) later more fine))))))
  requests-fine before (requested.Departure asked ∷ later) more fine =
      first-fine (in_force_or_before state before asked.flight) _ (if-fine _ _ tt) (first-fine (unknown_class airport asked.class) _ (if-fine _ _ tt)
      (first-fine (unknown_node airport asked.from) _ (if-fine _ _ tt) (first-fine (unknown_node airport asked.to) _ (if-fine _ _ tt) (first-fine (no_stand airport asked.from) _ (if-fine _ _ tt)
      (first-fine (no_runway airport asked.to) _ (if-fine _ _ tt) (requests-fine (before ++ requested.Departure asked ∷ []) later more fine))))))

  refusal-fine : (c : Command) → IsInGrammar c → IsFine (first_refusal airport state c)
  refusal-fine (command.File filed) spoken =
      first-fine (in_force state filed.flight) _ (if-fine _ _ tt) (first-fine (unknown_class airport filed.class) _ (if-fine _ _ tt) (first-fine (unknown_arc airport filed) _ (if-fine _ _ tt)
      (first-fine (full state) _ (if-fine _ _ tt) (first-fine (step_fails airport state filed) [] (step-fine filed (leb-true (length filed.steps) 256 (and_parts _ _ spoken.1).1)) tt))))
  refusal-fine (command.Arrival asked) spoken =
      first-fine (in_force state asked.flight) _ (if-fine _ _ tt) (first-fine (unknown_class airport asked.class) _ (if-fine _ _ tt) (first-fine (unknown_node airport asked.from) _ (if-fine _ _ tt)
      (first-fine (unknown_node airport asked.to) _ (if-fine _ _ tt) (first-fine (no_runway airport asked.from) _ (if-fine _ _ tt) (first-fine (no_stand airport asked.to) _ (if-fine _ _ tt)
      (first-fine (full state) [] (if-fine _ _ tt) tt))))))
  refusal-fine (command.Departure asked) spoken =
      first-fine (in_force state asked.flight) _ (if-fine _ _ tt) (first-fine (unknown_class airport asked.class) _ (if-fine _ _ tt) (first-fine (unknown_node airport asked.from) _ (if-fine _ _ tt)
      (first-fine (unknown_node airport asked.to) _ (if-fine _ _ tt) (first-fine (no_stand airport asked.from) _ (if-fine _ _ tt) (first-fine (no_runway airport asked.to) _ (if-fine _ _ tt)
      (first-fine (full state) [] (if-fine _ _ tt) tt))))))
  refusal-fine (command.Cancel flight) spoken = first-fine (not_in_force state flight) [] (if-fine _ _ tt) tt
  refusal-fine (command.Reroute flight time) spoken =
      first-fine (not_in_force state flight) _ (if-fine _ _ tt) (first-fine (of_flight state flight not_routed) _ (routed-fine flight)
      (first-fine (of_flight state flight (already_done time)) _ (done-fine flight time) (first-fine (of_flight state flight (already_moving time)) [] (moving-fine flight time) tt)))
  refusal-fine (command.Divert flight time node) spoken =
      first-fine (unknown_node airport node) _ (if-fine _ _ tt) (first-fine (no_stand airport node) _ (if-fine _ _ tt) (first-fine (not_in_force state flight) _ (if-fine _ _ tt)
      (first-fine (of_flight state flight not_routed) _ (routed-fine flight) (first-fine (of_flight state flight not_arrival) _ (arrival-fine flight)
      (first-fine (of_flight state flight (already_done time)) [] (done-fine flight time) tt)))))
  refusal-fine (command.Windows segment) spoken = first-fine (unknown_segment airport segment) [] (if-fine _ _ tt) tt
  refusal-fine (command.Occupancy segment) spoken = first-fine (unknown_segment airport segment) [] (if-fine _ _ tt) tt
  refusal-fine command.Timetable spoken = tt
  refusal-fine (command.Work shut) spoken =
      first-fine (in_force state shut.name) _ (if-fine _ _ tt) (first-fine (unknown_segment airport shut.segment) _ (if-fine _ _ tt) (first-fine (full state) _ (if-fine _ _ tt)
      (first-fine (hold_fails airport state shut) [] (hold-fine shut) tt)))
  refusal-fine (command.WorkDone name) spoken = first-fine (not_at_work state name) [] (if-fine _ _ tt) tt
  refusal-fine (command.ArrivalAny asked) spoken =
      first-fine (in_force state asked.flight) _ (if-fine _ _ tt) (first-fine (unknown_class airport asked.class) _ (if-fine _ _ tt) (first-fine (unknown_node airport asked.from) _ (if-fine _ _ tt)
      (first-fine (unknown_node_of airport asked.nodes) _ (if-fine _ _ tt) (first-fine (no_runway airport asked.from) _ (if-fine _ _ tt) (first-fine (not_all is_stand airport asked.nodes) _ (if-fine _ _ tt)
      (first-fine (full state) [] (if-fine _ _ tt) tt))))))
  refusal-fine (command.DepartureAny asked) spoken =
      first-fine (in_force state asked.flight) _ (if-fine _ _ tt) (first-fine (unknown_class airport asked.class) _ (if-fine _ _ tt) (first-fine (unknown_node airport asked.from) _ (if-fine _ _ tt)
      (first-fine (unknown_node_of airport asked.nodes) _ (if-fine _ _ tt) (first-fine (no_stand airport asked.from) _ (if-fine _ _ tt) (first-fine (not_all is_runway airport asked.nodes) _ (if-fine _ _ tt)
      (first-fine (full state) [] (if-fine _ _ tt) tt))))))
  refusal-fine (command.Late name time until) spoken =
      first-fine (not_in_force state name) _ (if-fine _ _ tt) (first-fine (of_flight state name not_routed) _ (routed-fine name)
      (first-fine (of_flight state name (already_done time)) _ (done-fine name time) (first-fine (of_flight state name (not_moving time)) _ (begun-fine name time)
      (first-fine (of_flight state name (not_late time until)) _ (late-fine name time until)
      (first-fine (past_end airport until) [] (if-fine _ _ (number airport well airport.horizon (omega arith))) tt)))))
  refusal-fine (command.Batch requests) spoken = requests-fine [] requests (full_with (length requests) state ∷ []) (first-fine (full_with (length requests) state) [] (if-fine _ _ tt) tt)

  -- ---- what is carried out

  file-printable : (filed : filing.Filed) (block : Block) (after : State) → IsName filed.flight → 0 < length filed.steps
      → first_refusal airport state (command.File filed) ≡ None → IsFiled airport state filed block after → IsPrintable airport block
  file-printable filed block after named some none done =
      let steps = done.steps in
      let made = done.steps_known in
      let c : Conditions = conditions_in airport done.class state in
      let walk : IsFeasibleWalk c steps =
      (route_fault-None airport done.class state steps (omega (arith, some, filed_steps-length airport filed.start filed.steps steps made))
      (filed_steps-arcs airport filed.start filed.steps steps made) (filed_steps-joined airport filed.start filed.steps steps made)).0
      (none-fails airport state filed done.class steps done.class_known made (file-does_not_fail airport state filed none)) in
      printable-by airport (filed_reply state filed.flight done.class steps) block after done.reply (named, (number airport well (begin_of steps) (walk-begin c steps walk), number airport well (end_of steps) (walk-end c steps walk)))

  chosen-has_text : (name class : List ℕ) (asked : Option Choice) (block : Block) (after : State) → IsName name
      → IsRoutedToOne airport state name class asked block after → IsPrintable airport block
  chosen-has_text name class asked block after named done = go done.chosen done.answers done.reply where
    c : Conditions
    c = conditions_in airport done.class state

    go : (answer : Chosen) → AnswersChoice c done.choice answer → IsOf (chosen_reply state name done.class done.choice answer) block after → IsPrintable airport block
    go (chosen.NoRoute labels) answers of =
        printable-by airport (record { block = NoRoute labels; after = state }) block after of
        (chosen-printable c well (conditions_among-bounded airport done.class (holds_in airport state)) done.choice (chosen.NoRoute labels) answers)
    go (chosen.Route to steps labels) answers of =
        let request : Request = request_for done.choice to in
        printable-by airport (record { block = Route name (second_of request steps) steps labels; after = with_flight (routed_flight name done.class request steps) state }) block after of
        (route-printable airport well c name request steps labels refl named (Meets-IsFeasibleWalk c request steps (chosen-meets c done.choice to steps labels answers))
        (chosen-printable c well (conditions_among-bounded airport done.class (holds_in airport state)) done.choice (chosen.Route to steps labels) answers))

  again-printable : (name : List ℕ) (time : ℕ) (IsMeant : Request → Node → Type 0) (block : Block) (after : State) → IsName name
      → IsRoutedAgain airport state name time IsMeant block after → IsPrintable airport block
  again-printable name time IsMeant block after named done = go done.found done.answers done.reply where
    flight : Flight
    flight = done.flight

    asked : Request
    asked = retargeted flight.request done.target

    c : Conditions
    c = conditions_of airport state flight

    bounded : (s : Segment) (t : ℕ) → airport.horizon ≤ t → IsFalse (c.free s t)
    bounded = conditions_among-bounded airport flight.class (holds_in airport (without flight.name state))

    go : (answer : Found) → AnswersAgain c flight.steps time done.target flight.request answer
        → IsOf (found_reply state name flight.request (λ steps. with_route flight asked steps state) answer) block after → IsPrintable airport block
    go (found.NoRoute labels) answers of =
        printable-by airport (record { block = NoRoute labels; after = state }) block after of
        (found_again-printable c well bounded flight.steps time done.target flight.request (found.NoRoute labels) answers)
    go (found.Route steps labels) answers of =
        let old : Meets c flight.request flight.steps =
        All-contains (λ f. Meets (conditions_of airport state f) f.request f.steps) state.flights flight sound.requests (flight_named-there name state.flights flight done.in_force) in
        let met : Meets c asked steps = found_again-meets c flight.steps time done.target flight.request steps labels old answers in
        printable-by airport (record { block = Route name (second_of flight.request steps) steps labels; after = with_route flight asked steps state }) block after of
        (route-printable airport well c name flight.request steps labels refl named (Meets-IsFeasibleWalk c asked steps met)
        (found_again-printable c well bounded flight.steps time done.target flight.request (found.Route steps labels) answers))

  -- what is carried out has a text
  pub carried_out-printable : (c : Command) (block : Block) (after : State) → IsInGrammar c → first_refusal airport state c ≡ None
      → IsCarriedOut airport state c block after → IsPrintable airport block
  carried_out-printable (command.File filed) block after spoken none done =
      file-printable filed block after spoken.0 (ltb-true 0 (length filed.steps) (and_parts _ _ spoken.1).0) none done
  carried_out-printable (command.Arrival asked) block after spoken none done =
      routed-printable airport well state asked.flight done.class done.request block after spoken.0 done.routed
  carried_out-printable (command.Departure asked) block after spoken none done =
      routed-printable airport well state asked.flight done.class done.request block after spoken.0 done.routed
  carried_out-printable (command.Cancel flight) block after spoken none done = printable-by airport (cancelled_reply state flight) block after done spoken
  carried_out-printable (command.Reroute flight time) block after spoken none done = again-printable flight time IsTarget block after spoken.0 done
  carried_out-printable (command.Divert flight time node) block after spoken none done =
      again-printable flight time (λ asked target. node_named airport node ≡ Some target) block after spoken.0 done
  carried_out-printable (command.Windows segment) block after spoken none done =
      printable-by airport (windows_reply airport state done.segment) block after done.reply (
        (segment_named-exists airport segment done.segment done.known, omega (arith, windows_among-count airport state done.segment, well.horizon.1)),
        All-weaker (λ w. (w.from < w.until) × (w.until ≤ airport.horizon)) IsPrintableWindow (λ w h. (number airport well w.from (omega (arith, h.0, h.1)), number airport well w.until h.1))
            (windows_among airport state done.segment) (windows_among-by airport state done.segment),
      )
  carried_out-printable (command.Occupancy segment) block after spoken none done =
      printable-by airport (occupancy_reply state done.segment done.rows) block after done.reply (
        (segment_named-exists airport segment done.segment done.known, held-count airport state well sound done.segment done.rows done.held),
        held-printable airport state well sound names done.segment done.rows done.held,
      )
  carried_out-printable command.Timetable block after spoken none done =
      printable-by airport (timetable_reply state) block after done (timetable-count airport state well sound, timetable-printable airport state well sound names)
  carried_out-printable (command.Work shut) block after spoken none done =
      printable-by airport (shut_reply state (party_of shut done.segment)) block after done.reply (spoken.0, (spoken.1, spoken.2))
  carried_out-printable (command.WorkDone name) block after spoken none done = printable-by airport (opened_reply state name) block after done spoken
  carried_out-printable (command.ArrivalAny asked) block after spoken none done =
      chosen-has_text asked.flight asked.class (arrival_any_named airport asked) block after spoken.0 done
  carried_out-printable (command.DepartureAny asked) block after spoken none done =
      chosen-has_text asked.flight asked.class (departure_any_named airport asked) block after spoken.0 done
  carried_out-printable (command.Batch requests) block after spoken none done = batch-printable airport well state requests block after spoken.0 spoken.1 done
  carried_out-printable (command.Late name time until) block after spoken none done = late-printable airport well state names sound name time until block after spoken.0 none done

  of-refusal : (why : Refusal) (block : Block) (after : State) → IsOf (refused state why) block after → IsPrintableRefusal why → IsPrintable airport block
  of-refusal why block after of fine = printable-by airport (refused state why) block after of fine

  due_to-printable : (c : Command) (block : Block) (after : State) → IsInGrammar c → IsDueTo airport state c block after → IsPrintable airport block
  due_to-printable c block after spoken due = go (first_refusal airport state c) refl (refusal-fine c spoken) due where
    go : (o : Option Refusal) → first_refusal airport state c ≡ o → IsFine o → MatchOption o (IsCarriedOut airport state c block after) (λ why. IsOf (refused state why) block after)
        → IsPrintable airport block
    go None none fine done = carried_out-printable c block after spoken none done
    go (Some why) some fine of = of-refusal why block after of fine

  -- the block that a line is due has a text
  pub due-printable : (line : List ℕ) (block : Block) (after : State) → IsDue airport state line block after → IsPrintable airport block
  unfolding IsDue
  due-printable line block after due = go (command_of line) (command_of-in_grammar line) due where
    go : (o : Option Command) → IfSome o IsInGrammar
        → MatchOption o (IsOf (refused state refusal.BadLine) block after) (λ c. IsDueTo airport state c block after) → IsPrintable airport block
    go None spoken due = of-refusal refusal.BadLine block after due tt
    go (Some c) spoken due = due_to-printable c block after spoken due

-- a route leaves holders names
route-names : (airport : Airport) (state : State) (name : List ℕ) (second : ℕ) (steps : List Step) (after : State) → IsName name → HaveNames state → IsRouteIn airport state name second steps after → HaveNames after
route-names airport state name second steps after named names says =
    subst HaveNames (sym says.3) (with_flight-names says.0 (without says.0.name state) (subst IsName (sym says.1) named) (without-names says.0.name state names))

-- and so does what an entry says
entry-names : (airport : Airport) (state : State) (told : List ℕ × Entry) (after : State) → HaveNames state → DoesEntry airport state told after → IsPrintableEntry airport told → HaveNames after
entry-names airport state (name, entry.Route second steps labels) after names says fine = route-names airport state name second steps after fine.0.0 names says
entry-names airport state (name, entry.NoRoute labels) after names says fine = subst HaveNames (sym says) names
entry-names airport state (name, entry.Dropped) after names says fine = absurd says

-- what a block says leaves holders names, where the block has a text
pub says-names : (airport : Airport) (state : State) (block : Block) (after : State) → HaveNames state → DoesAsItSays airport state block after
    → IsPrintable airport block → HaveNames after
says-names airport state (Filed name start end) after names (inl says) fine =
    subst HaveNames (sym says.goes_in) (with_flight-names says.flight state (subst IsName (sym says.name_told) fine.0) names)
says-names airport state (Filed name start end) after names (inr says) fine =
    subst HaveNames (sym says.goes_in) (with_party-names says.party state (subst IsName (sym says.name_told) fine.0) names)
says-names airport state (Cancelled name) after names says fine = subst HaveNames (sym says.1) (without-names name state names)
says-names airport state (Route name second steps labels) after names says fine =
    route-names airport state name second steps after fine.0.0 names says
says-names airport state (NoRoute labels) after names says fine = subst HaveNames (sym says) names
says-names airport state (Windows segment windows) after names says fine = subst HaveNames (sym says.1) names
says-names airport state (Occupancy segment held) after names says fine = subst HaveNames (sym says.1) names
says-names airport state (Timetable flights) after names says fine = subst HaveNames (sym says.1) names
says-names airport state (Refused why) after names says fine = subst HaveNames (sym says) names
says-names airport state (Late flight entries) after names says fine = repair-names airport state entries after names says fine.1.1
says-names airport state (Batch total entries) after names says fine = go state entries names says fine.1.1 where
  go : (state : State) (entries : List (List ℕ × Entry)) → HaveNames state → DoInTurn airport state entries after → All (IsPrintableEntry airport) entries → HaveNames after
  go state [] names says fine = subst HaveNames (sym says) names
  go state (told ∷ entries) names says fine =
      go says.0 entries (entry-names airport state told says.0 names says.1 (All-head (IsPrintableEntry airport) told entries fine)) says.2 (All-tail (IsPrintableEntry airport) told entries fine)
