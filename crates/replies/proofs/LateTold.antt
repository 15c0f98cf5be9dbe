-- Which flight is late where nothing is refused, and what is told of the names whose turns are taken.
use Rattle.std.proofs.Common.{◌≡◌, ◌∙◌, ℕ, ◌<◌, ◌≤◌, List, [], ◌∷◌, ◌++◌, map, IsTrue, IsFalse, Option, Some, None, option_map, is_some, refl, sym, ap, subst, arith, inl, inr, bytes_eq}
use Rattle.std.specs.Prelude.{All, Contains, MatchOption}
use Rattle.std.specs.Cmp.Lexicographic.{bytes_decides}
use Rattle.std.proofs.lemmas.Bool.{cases_lt, le-leb, lt-ltb, both_ways, false_from_ne_true}
use Rattle.std.proofs.lemmas.List.Elements.{All-nil, All-cons, All-head, All-contains, All-contains_itself, All-weaker}
use Rattle.taxi_base.specs.declared.rows.Step.{Step}
use Rattle.taxi_base.specs.declared.answers.Flight.{Flight}
use Rattle.taxi_base.specs.declared.answers.Found.{Found}
use Rattle.taxi_base.specs.declared.answers.Found.TheVariants as found
use Rattle.taxi_base.specs.declared.answers.Request.{Request}
use Rattle.taxi_base.specs.declared.answers.Request.TheVariants as request
use Rattle.taxi_base.specs.Airport.{Airport, IsWellFormed}
use Rattle.taxi_base.specs.Walks.{Conditions, IsFeasibleWalk, begin_of, end_of}
use Rattle.taxi_base.specs.State.{State, flight_named, conditions_of, step_begun, IsFeasibleState}
use Rattle.taxi_base.specs.Late.{Delay, IsDelay, steps_kept, request_sought, time_sought, AnswersTurn, IsTurnOfFlight, IsTurnOf, AreTurns, IsRepaired}
use Rattle.taxi_base.proofs.AgainLaws.{end_of-back}
use Rattle.taxi_base.proofs.KeptSteps.{walk-about, walk-not_begun, seam-next}
use Rattle.taxi_base.proofs.ListLaws.{map-Contains, list_any-member, list_any-true}
use Rattle.taxi_base.proofs.OneRepair.{IsRepaired-same}
use Rattle.taxi_text.specs.declared.command.Command.TheVariants as command
use Rattle.replies.specs.declared.block.Block.{Block}
use Rattle.replies.specs.declared.block.Block.TheVariants.{Late}
use Rattle.replies.specs.declared.entries.Entry.{Entry}
use Rattle.replies.specs.Refusals.{is_filed, not_in_force, of_flight, not_routed, already_done, not_moving, not_late, past_end, first_of, first_refusal}
use Rattle.replies.specs.Repairs.{delay_of, names_in_turn, request_at_turn, entry_told, entries_told, IsRepairTold, IsDroppedAsDue}
use Rattle.replies.specs.Replies.{is_told_of}
use Rattle.replies.proofs.FiledLaws.{and_then-some, map-some}
use Rattle.replies.proofs.FlightLaws.{flight_named-there, flight_named-name}
use Rattle.replies.proofs.RefusalLaws.{none-first, none-others, is-in_force}
use Rattle.replies.proofs.AgainRefusals.{of-flight, not_done}
use Rattle.replies.proofs.RoutedLaws.{one-some}

-- ---- who is late

-- the flight of the name is in force, and has begun the step
pub record IsDelayOf (state : State) (name : List ℕ) (time until : ℕ) (delay : Delay) : Type 0 where
  pub named_so : delay.flight.name ≡ name
  pub in_force : flight_named name state.flights ≡ Some delay.flight
  pub under_way : step_begun time delay.flight.steps ≡ Some delay.begun
  pub time_is : delay.time ≡ time
  pub until_is : delay.until ≡ until

pub delay-parts : (state : State) (name : List ℕ) (time until : ℕ) (delay : Delay) → delay_of state name time until ≡ Some delay → IsDelayOf state name time until delay
delay-parts state name time until delay e =
    let flight = and_then-some (λ flight. option_map (λ begun. record { flight = flight; begun = begun; time = time; until = until }) (step_begun time flight.steps)) (flight_named name state.flights) delay e in
    let begun = map-some (λ begun. record { flight = flight.0; begun = begun; time = time; until = until }) (step_begun time flight.0.steps) delay flight.2 in
    subst (IsDelayOf state name time until) begun.2 (record {
      named_so = flight_named-name name state.flights flight.0 flight.1;
      in_force = flight.1;
      under_way = begun.1;
      time_is = refl;
      until_is = refl;
    })

-- a walk that has begun a step last, and has not ended, has not left that step
on-step : (c : Conditions) (time : ℕ) (steps : List Step) (begun : Step) → IsFeasibleWalk c steps → step_begun time steps ≡ Some begun → time < end_of steps → time < begun.leave
on-step c time steps begun walk e before =
    let parts = walk-about c time steps begun walk e in go parts.0 parts.1 parts.2.joined parts.2.later
  where
    go : (front back : List Step) → steps ≡ front ++ begun ∷ back → All (λ s. time < s.enter) back → time < begun.leave
    go front [] joined later = let last : end_of steps ≡ begun.leave = ap end_of joined ∙ end_of-back front begun [] in omega (arith, before, last)
    go front (t ∷ back) joined later =
        omega (arith, seam-next c front begun t back (subst (IsFeasibleWalk c) joined walk), All-head (λ s. time < s.enter) t back later)

module _ (airport : Airport) (state : State) (feasible : IsFeasibleState airport state) (name : List ℕ) (time until : ℕ) (none : first_refusal airport state (command.Late name time until) ≡ None) where
  after_force : first_of (of_flight state name not_routed ∷ of_flight state name (already_done time) ∷ of_flight state name (not_moving time) ∷ of_flight state name (not_late time until)
      ∷ past_end airport until ∷ []) ≡ None
  after_force = none-others (not_in_force state name) _ none

  after_routed : first_of (of_flight state name (already_done time) ∷ of_flight state name (not_moving time) ∷ of_flight state name (not_late time until) ∷ past_end airport until ∷ []) ≡ None
  after_routed = none-others (of_flight state name not_routed) _ after_force

  after_done : first_of (of_flight state name (not_moving time) ∷ of_flight state name (not_late time until) ∷ past_end airport until ∷ []) ≡ None
  after_done = none-others (of_flight state name (already_done time)) _ after_routed

  after_moving : first_of (of_flight state name (not_late time until) ∷ past_end airport until ∷ []) ≡ None
  after_moving = none-others (of_flight state name (not_moving time)) _ after_done

  by-horizon : until ≤ airport.horizon
  by-horizon = go (none-first (past_end airport until) [] (none-others (of_flight state name (not_late time until)) _ after_moving)) where
    go : past_end airport until ≡ None → until ≤ airport.horizon
    go e = elim (cases_lt airport.horizon until) [
      | inl past ↦ absurd (cc (rw (lt-ltb airport.horizon until past) at e))
      | inr by ↦ by
    ]

  module _ (flight : Flight) (in_force : flight_named name state.flights ≡ Some flight) where
    walk : IsFeasibleWalk (conditions_of airport state flight) flight.steps
    walk = All-contains (λ f. IsFeasibleWalk (conditions_of airport state f) f.steps) state.flights flight feasible.walks (flight_named-there name state.flights flight in_force)

    not_over : time < end_of flight.steps
    not_over = not_done airport state name time flight in_force (of-flight airport state name time flight in_force (already_done time) (none-first (of_flight state name (already_done time)) _ after_routed))

    begins-by : begin_of flight.steps ≤ time
    begins-by = go (of-flight airport state name time flight in_force (not_moving time) (none-first (of_flight state name (not_moving time)) _ after_done)) where
      go : not_moving time flight ≡ None → begin_of flight.steps ≤ time
      go e = elim (cases_lt time (begin_of flight.steps)) [
        | inl before ↦ absurd (cc (rw (lt-ltb time (begin_of flight.steps) before) at e))
        | inr by ↦ by
      ]

    leaves-before : (begun : Step) → step_begun time flight.steps ≡ Some begun → begun.leave < until
    leaves-before begun e = go (of-flight airport state name time flight in_force (not_late time until) (none-first (of_flight state name (not_late time until)) _ after_moving)) where
      go : not_late time until flight ≡ None → begun.leave < until
      go none = elim (cases_lt begun.leave until) [
        | inl before ↦ before
        | inr late ↦ absurd (cc (rw (e, le-leb until begun.leave late) at none))
      ]

    -- a step was begun
    begun-there : (begun : Step) × (step_begun time flight.steps ≡ Some begun)
    begun-there = go (step_begun time flight.steps) refl where
      late : (steps : List Step) → IsFeasibleWalk (conditions_of airport state flight) steps → All (λ s. time < s.enter) steps → time < begin_of steps
      late [] walk later = absurd walk
      late (s ∷ steps) walk later = All-head (λ s. time < s.enter) s steps later

      go : (o : Option Step) → step_begun time flight.steps ≡ o → (begun : Step) × (step_begun time flight.steps ≡ Some begun)
      go None e = absurd (omega (arith, begins-by, late flight.steps walk (walk-not_begun (conditions_of airport state flight) time flight.steps walk e).0))
      go (Some begun) e = (begun, e)

  -- A flight that is said to be late is, where nothing is refused.
  pub delay-is : (delay : Delay) → delay_of state name time until ≡ Some delay → IsDelay airport state delay
  delay-is delay known =
      let parts = delay-parts state name time until delay known in
      let flight : Flight = delay.flight in
      let on_it : time < delay.begun.leave =
      on-step (conditions_of airport state flight) time flight.steps delay.begun (walk flight parts.in_force) parts.under_way (not_over flight parts.in_force) in
      record {
        in_force = subst (λ n. flight_named n state.flights ≡ Some flight) (sym parts.named_so) parts.in_force;
        under_way = subst (λ t. step_begun t flight.steps ≡ Some delay.begun) (sym parts.time_is) parts.under_way;
        on_it = omega (arith, on_it, parts.time_is);
        late = omega (arith, leaves-before flight parts.in_force delay.begun parts.under_way, parts.until_is);
        in_time = omega (arith, by-horizon, parts.until_is);
      }

  -- And there is one.
  pub delay-there : (delay : Delay) × (delay_of state name time until ≡ Some delay) × IsDelay airport state delay
  delay-there = go (flight_named name state.flights) refl (is-in_force state name (none-first (not_in_force state name) _ none)) where
    go : (o : Option Flight) → flight_named name state.flights ≡ o → IsTrue (is_some o) → (delay : Delay) × (delay_of state name time until ≡ Some delay) × IsDelay airport state delay
    go None e there = absurd (cc there)
    go (Some flight) e there =
        let begun = begun-there flight e in
        let delay : Delay = record { flight = flight; begun = begun.0; time = time; until = until } in
        let known : delay_of state name time until ≡ Some delay = rw (e, begun.1) refl in
        (delay, known, delay-is delay known)

-- ---- what is told

module _ (airport : Airport) (delay : Delay) (state : State) where
  abbrev Turns : List (List ℕ) → State → List (Option Found) → State → Type 0
  Turns = AreTurns airport delay state

  abbrev entries : List (List ℕ) → List (Option Found) → List (List ℕ × Entry)
  entries = entries_told airport delay state

  -- of each name in turn
  pub told-names : (names : List (List ℕ)) (now : State) (tells : List (Option Found)) (after : State) → Turns names now tells after → map (λ told. told.0) (entries names tells) ≡ names
  told-names [] now [] after turns = refl
  told-names [] now (told ∷ tells) after turns = absurd turns
  told-names (name ∷ names) now [] after turns = absurd turns
  told-names (name ∷ names) now (told ∷ tells) after turns = ap (λ (ns : List (List ℕ)). name ∷ ns) (told-names names turns.0 tells after turns.2)

  -- a flight that is answered asked for something
  pub answered-asked : (c : Conditions) (asked : Request) (kept : List Step) (time : ℕ) (found : Found) → AnswersTurn c (request_sought asked kept) kept time found → IsFalse (is_filed asked)
  answered-asked c request.Filed kept time found answers = absurd answers
  answered-asked c (request.Arrival from to asked hold) kept time found answers = refl
  answered-asked c (request.Departure from to asked queue) kept time found answers = refl

  told-due : (name : List ℕ) (sought : Request) (now : State) (told : Option Found) (next : State) → IsTurnOf airport delay state name now told next → IsDroppedAsDue state (name, entry_told sought told)
  told-due name sought now told next turn = go (flight_named name state.flights) refl told turn where
    go : (o : Option Flight) → flight_named name state.flights ≡ o → (told : Option Found) → MatchOption o ((told ≡ None) × (next ≡ now)) (λ flight. IsTurnOfFlight airport delay flight now told next)
        → IsDroppedAsDue state (name, entry_told sought told)
    go None e told h = subst (λ t. IsDroppedAsDue state (name, entry_told sought t)) (sym h.0) (rw e refl)
    go (Some x) e None h = rw (e, h.0) refl
    go (Some x) e (Some (found.Route steps labels)) h =
        rw e (answered-asked (conditions_of airport now x) x.request (steps_kept airport delay x) (time_sought delay x) (found.Route steps labels) h.0)
    go (Some x) e (Some (found.NoRoute labels)) h =
        rw e (answered-asked (conditions_of airport now x) x.request (steps_kept airport delay x) (time_sought delay x) (found.NoRoute labels) h.0)

  -- and each is dropped exactly where that is due
  pub told-dropped : (names : List (List ℕ)) (now : State) (tells : List (Option Found)) (after : State) → Turns names now tells after → All (IsDroppedAsDue state) (entries names tells)
  told-dropped [] now [] after turns = All-nil (IsDroppedAsDue state)
  told-dropped [] now (told ∷ tells) after turns = absurd turns
  told-dropped (name ∷ names) now [] after turns = absurd turns
  told-dropped (name ∷ names) now (told ∷ tells) after turns =
      All-cons (IsDroppedAsDue state) (name, entry_told (request_at_turn airport delay state name) told) (entries names tells)
      (told-due name (request_at_turn airport delay state name) now told turns.0 turns.1) (told-dropped names turns.0 tells after turns.2)

-- a late flight is answered in one way
pub IsRepairTold-same : (airport : Airport) (state : State) → IsWellFormed airport → (name : List ℕ) (time until : ℕ) (block : Block) (after : State) (other : Block) (others : State)
    → IsRepairTold airport state name time until block after → IsRepairTold airport state name time until other others → (block ≡ other) × (after ≡ others)
IsRepairTold-same airport state well name time until block after other others a b =
    let delays : a.delay ≡ b.delay = one-some (delay_of state name time until) a.delay b.delay a.known b.known in
    let same = IsRepaired-same airport state a.delay well a.meetings b.meetings a.tells b.tells after others a.repaired
    (subst (λ d. IsRepaired airport state d b.meetings b.tells others) (sym delays) b.repaired) in (
      a.block_is ∙ (λ i. Late name (entries_told airport (delays i) state (names_in_turn (delays i) (same.0 i)) (same.1 i))) ∙ sym b.block_is,
      same.2,
    )

-- ---- of whom it is told

-- a name of an entry is told of
pub name-told : (entries : List (List ℕ × Entry)) (names : List (List ℕ)) (name : List ℕ) → map (λ told. told.0) entries ≡ names → Contains names name → IsTrue (is_told_of entries name)
name-told entries names name are there =
    let told = map-Contains (λ (t : List ℕ × Entry). t.0) entries name (subst (λ (ns : List (List ℕ)). Contains ns name) (sym are) there) in
    list_any-member (λ (t : List ℕ × Entry). bytes_eq t.0 name) entries told.0 told.1 ((bytes_decides told.0.0 name).1 told.2)

-- a name that is told of is one of an entry
pub told-name : (entries : List (List ℕ × Entry)) (name : List ℕ) → IsTrue (is_told_of entries name) → (told : List ℕ × Entry) × Contains entries told × (told.0 ≡ name)
told-name entries name is =
    let found = list_any-true (λ (t : List ℕ × Entry). bytes_eq t.0 name) entries is in
    (found.0, found.1, (bytes_decides found.0.0 name).0 found.2)

-- a name that is not told of differs from each name of an entry
pub untold-differs : (entries : List (List ℕ × Entry)) (names : List (List ℕ)) (name : List ℕ) → map (λ told. told.0) entries ≡ names → IsFalse (is_told_of entries name)
    → All (λ n. IsFalse (bytes_eq name n)) names
untold-differs entries names name are untold =
    All-weaker (Contains names) (λ n. IsFalse (bytes_eq name n)) (λ n there. false_from_ne_true _ (λ same.
    both_ways _ untold (name-told entries names name are (subst (Contains names) (sym ((bytes_decides name n).0 same)) there)))) names (All-contains_itself names)
