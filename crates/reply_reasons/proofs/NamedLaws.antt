-- The holders that an explanation names.
use Rattle.std.proofs.Common.{◌≡◌, ℕ, zero, suc, ◌+◌, ◌-◌, ◌<◌, ◌==◌, List, [], ◌∷◌, ◌++◌, length, false, Option, Some, None, if◌then◌else◌, inl, inr, refl, sym, subst, arith}
use Rattle.std.specs.Prelude.{All, flat_map, slice_get, option_and_then, nat_lt, IfSome}
use Rattle.std.specs.List.{range_with_len}
use Rattle.std.specs.Option.{option_map_or}
use Rattle.std.proofs.lemmas.Bool.{cases_lt, lt-ltb, le-ltb, cases_Bool}
use Rattle.std.proofs.lemmas.Bool.Decides.{nat_tests}
use Rattle.std.proofs.lemmas.Option.{none-some, same_Some}
use Rattle.std.proofs.lemmas.List.Elements.{All-nil, All-cons, All-append}
use Rattle.taxi_base.specs.declared.numbers.Class.{Class}
use Rattle.taxi_base.specs.declared.numbers.Node.{Node}
use Rattle.taxi_base.specs.declared.rows.Step.{Step}
use Rattle.taxi_base.specs.declared.answers.Request.{Request}
use Rattle.taxi_base.specs.declared.answers.Request.TheVariants as request
use Rattle.taxi_base.specs.declared.answers.Found.TheVariants as found
use Rattle.taxi_base.specs.declared.answers.Chosen.TheVariants as chosen
use Rattle.taxi_base.specs.Airport.{Airport, layout_of, segment_of}
use Rattle.taxi_base.specs.Walks.{Conditions, begin_of, end_of, AtFirst, AtLast, LeavesNodeWithin, ReachesNodeWithin}
use Rattle.taxi_base.specs.Labels.{IsPickedArrival, IsPickedDeparture}
use Rattle.taxi_base.specs.State.{State}
use Rattle.taxi_base.specs.Faults.{conditions_in}
use Rattle.replies.specs.Refusals.{is_departure}
use Rattle.replies.specs.Routed.{second_of}
use Rattle.reply_reasons.specs.declared.asking.Asking.{Asking}
use Rattle.reply_reasons.specs.declared.asking.Way.{Way}
use Rattle.reply_reasons.specs.declared.asking.Way.TheVariants.{New, ToAny, On}
use Rattle.reply_reasons.specs.declared.reason.Reason.{Reason}
use Rattle.reply_reasons.specs.declared.reason.Reason.TheVariants as reason
use Rattle.reply_reasons.specs.InTheWay.{in_the_way}
use Rattle.reply_reasons.specs.Routes.{IsPickedBy, second_found, is_better}
use Rattle.reply_reasons.specs.Waits.{listed, held_until, hold_reason, queue_reason, holder_ahead, holder_behind, seconds_waited, wait_reason, wait_reasons, route_reasons}
use Rattle.reply_reasons.specs.Explained.{IsWithout, AreWithout, holder_names, span_reason, freed_reasons, IsRouteExplained}
use Rattle.reply_reasons.specs.Named.{IsNamed, NamesWaitedFor, NamesHolder, IsForNew}
use Rattle.reply_reasons.proofs.HeldSeconds.{IsHeld, held-named}
use Rattle.reply_reasons.proofs.HeldAhead.{AreHeldAhead, arrival-held}
use Rattle.reply_reasons.proofs.HeldBehind.{AreHeldBehind, IsHeldAfter, IsHeldDeparture, departure-held}

-- ---- of each place

all-each : {X Y : Type 0} (P : Y → Type 0) (f : X → List Y) → ((x : X) → All P (f x)) → (xs : List X) → All P (flat_map f xs)
all-each P f each [] = All-nil P
all-each P f each (x ∷ xs) = All-append P (f x) (flat_map f xs) (each x) (all-each P f each xs)

last-place : (P : Step → Type 0) (steps : List Step) (last : Step) → AtLast P steps → slice_get steps (length steps - 1) ≡ Some last → P last
last-place P [] last p e = absurd p
last-place P (s ∷ []) last p e = subst P (same_Some s last e) p
last-place P (s ∷ t ∷ steps) last p e =
    let less : suc (suc (length steps)) - 1 ≡ suc (suc (length steps) - 1) = omega arith in last-place P (t ∷ steps) last p (rw less at e)

module _ (airport : Airport) (class : Class) (others : State) where
  -- a step that waits has one behind it, whose segment is held
  ahead-at : (steps : List Step) (place : ℕ) (step : Step) → AreHeldAhead airport class others steps → AtLast (λ s. seconds_waited airport class s ≡ 0) steps
      → slice_get steps place ≡ Some step → 0 < seconds_waited airport class step → IsNamed others (holder_ahead airport others steps place step)
  ahead-at steps place step held last e waits =
      let next = go steps place held last e in
      let more : place + 1 ≡ suc place = omega arith in
      rw (more, next.1) (held-named airport others (segment_of next.0.arc) (step.leave - 1) next.2)
    where
      go : (steps : List Step) (place : ℕ) → AreHeldAhead airport class others steps → AtLast (λ s. seconds_waited airport class s ≡ 0) steps → slice_get steps place ≡ Some step
          → (next : Step) × (slice_get steps (suc place) ≡ Some next) × IsHeld airport others (segment_of next.arc) (step.leave - 1)
      go [] place held last e = absurd last
      go (s ∷ []) zero held last e = absurd (omega (arith, waits, rw (same_Some s step e) at last))
      go (s ∷ []) (suc place) held last e = absurd (none-some step e)
      go (s ∷ t ∷ steps) zero held last e =
          let same : s ≡ step = same_Some s step e in
          (t, refl, subst (λ (x : Step). 0 < seconds_waited airport class x → IsHeld airport others (segment_of t.arc) (x.leave - 1)) same held.0 waits)
      go (s ∷ t ∷ steps) (suc place) held last e = go (t ∷ steps) place held.1 last e

  -- and one before it
  behind-at : (steps : List Step) (place : ℕ) (step : Step) → AreHeldBehind airport class others steps → AtFirst (λ s. seconds_waited airport class s ≡ 0) steps
      → slice_get steps place ≡ Some step → 0 < seconds_waited airport class step → IsNamed others (holder_behind airport class others steps place)
  behind-at [] place step held first e waits = absurd first
  behind-at (s ∷ steps) zero step held first e waits = absurd (omega (arith, waits, rw (same_Some s step e) at first))
  behind-at (s ∷ steps) (suc place) step held first e waits =
      let prior = go (s ∷ steps) place held e in
      let some : (suc place == 0) ≡ false = grind (arith, nat_tests) in
      let less : suc place - 1 ≡ place = omega arith in
      rw (some, less, prior.1) (held-named airport others (segment_of prior.0.arc) (held_until airport class prior.0) prior.2)
    where
      go : (steps : List Step) (place : ℕ) → AreHeldBehind airport class others steps → slice_get steps (suc place) ≡ Some step
          → (prior : Step) × (slice_get steps place ≡ Some prior) × IsHeld airport others (segment_of prior.arc) (held_until airport class prior)
      go [] place held e = absurd (none-some step e)
      go (s ∷ []) place held e = absurd (none-some step e)
      go (s ∷ t ∷ steps) zero held e =
          let same : t ≡ step = same_Some t step e in
          (s, refl, subst (λ (x : Step). 0 < seconds_waited airport class x → IsHeld airport others (segment_of s.arc) (held_until airport class s)) same held.0 waits)
      go (s ∷ t ∷ steps) (suc place) held e = go (t ∷ steps) place held.1 e

  -- ---- the lines of a route

  -- where each step that waits has its holder, so has each wait
  waits-named : (P : Reason → Type 0) (asked : Request) (steps : List Step)
      → ((place : ℕ) (step : Step) → slice_get steps place ≡ Some step → 0 < seconds_waited airport class step
      → P (reason.Wait (place + 1) step.arc (seconds_waited airport class step) (if is_departure asked then holder_behind airport class others steps place else holder_ahead airport others steps place step)))
      → All P (wait_reasons airport class others asked steps (length steps))
  waits-named P asked steps each = all-each P (λ place. listed (wait_reason airport class others asked steps place)) at_place (range_with_len 0 (length steps)) where
    at_place : (place : ℕ) → All P (listed (wait_reason airport class others asked steps place))
    at_place place = go (slice_get steps place) refl where
      go : (o : Option Step) → slice_get steps place ≡ o → All P (listed (wait_reason airport class others asked steps place))
      go None e = rw e (All-nil P)
      go (Some step) e = elim (cases_lt 0 (seconds_waited airport class step)) [
        | inl waits ↦ rw (e, lt-ltb 0 (seconds_waited airport class step) waits) (All-cons P _ [] (each place step e waits) (All-nil P))
        | inr still ↦ rw (e, le-ltb 0 (seconds_waited airport class step) still) (All-nil P)
      ]

  hold-named : (time : ℕ) (steps : List Step) → AtFirst (λ s. time < s.enter → IsHeld airport others (segment_of s.arc) (s.enter - 1)) steps
      → All (NamesHolder others) (listed (hold_reason airport others time steps))
  hold-named time [] first = absurd first
  hold-named time (s ∷ steps) first = elim (cases_lt time s.enter) [
    | inl late ↦
        rw (lt-ltb time s.enter late) (All-cons (NamesHolder others) _ [] (held-named airport others (segment_of s.arc) (s.enter - 1) (first late)) (All-nil (NamesHolder others)))
    | inr prompt ↦ rw (le-ltb time s.enter prompt) (All-nil (NamesHolder others))
  ]

  queue-named : (time : ℕ) (steps : List Step) → AtLast (λ s. s.leave < time → IsHeld airport others (segment_of s.arc) (held_until airport class s)) steps
      → All (NamesHolder others) (listed (queue_reason airport class others time steps))
  queue-named time steps last = go (slice_get steps (length steps - 1)) refl where
    go : (o : Option Step) → slice_get steps (length steps - 1) ≡ o → All (NamesHolder others) (listed (queue_reason airport class others time steps))
    go None e = rw e (All-nil (NamesHolder others))
    go (Some s) e = elim (cases_lt s.leave time) [
      | inl early ↦
          rw (e, lt-ltb s.leave time early)
          (All-cons (NamesHolder others) _ []
          (held-named airport others (segment_of s.arc) (held_until airport class s)
          (last-place (λ s. s.leave < time → IsHeld airport others (segment_of s.arc) (held_until airport class s)) steps s last e early)) (All-nil (NamesHolder others)))
      | inr prompt ↦ rw (e, le-ltb s.leave time prompt) (All-nil (NamesHolder others))
    ]

  -- of an arrival, to the node that it reaches
  arrival-named : (from to node : Node) (time hold : ℕ) (steps : List Step) → IsPickedArrival (conditions_in airport class others) (LeavesNodeWithin (layout_of airport) from time (time + hold)) node steps
      → All (NamesHolder others) (route_reasons airport class others (request.Arrival from to time hold) steps)
  unfolding route_reasons
  arrival-named from to node time hold steps picked =
      let held = arrival-held airport class others from time (time + hold) node steps picked in
      All-append (NamesHolder others) (listed (hold_reason airport others time steps)) (wait_reasons airport class others (request.Arrival from to time hold) steps (length steps))
      (hold-named time steps held.first)
      (waits-named (NamesHolder others) (request.Arrival from to time hold) steps (λ place step e waits. ahead-at steps place step held.ahead held.last e waits))

  -- of a departure
  module _ (from to node : Node) (time queue : ℕ) (steps : List Step)
      (picked : IsPickedDeparture (conditions_in airport class others) (ReachesNodeWithin (layout_of airport) node (time - queue) time) from steps) where
    held : IsHeldDeparture airport class others node (time - queue) time steps
    held = departure-held airport class others node (time - queue) time from steps picked

    departure-waits : (P : Reason → Type 0) → ((step arc seconds : _) (holder : Option (List ℕ)) → IsNamed others holder → P (reason.Wait step arc seconds holder))
        → All P (wait_reasons airport class others (request.Departure from to time queue) steps (length steps))
    departure-waits P named =
        waits-named P (request.Departure from to time queue) steps (λ place step e waits. named _ _ _ _ (behind-at steps place step held.behind held.first e waits))

    departure-waited : All (NamesWaitedFor others) (route_reasons airport class others (request.Departure from to time queue) steps)
    unfolding route_reasons
    departure-waited =
        All-append (NamesWaitedFor others) (listed (queue_reason airport class others time steps)) (wait_reasons airport class others (request.Departure from to time queue) steps (length steps))
        (queue-any (slice_get steps (length steps - 1))) (departure-waits (NamesWaitedFor others) (λ step arc seconds holder named. named))
      where
        queue-any : (o : Option Step) → All (NamesWaitedFor others) (listed (option_and_then (λ last. if nat_lt last.leave time then Some (reason.Queue (time - last.leave) (in_the_way airport others (segment_of last.arc) (held_until airport class last))) else None) o))
        queue-any None = All-nil (NamesWaitedFor others)
        queue-any (Some last) = elim (cases_Bool (nat_lt last.leave time)) [
          | inl early ↦ rw early (All-cons (NamesWaitedFor others) _ [] tt (All-nil (NamesWaitedFor others)))
          | inr prompt ↦ rw prompt (All-nil (NamesWaitedFor others))
        ]

    departure-named : AtLast (λ s. held_until airport class s < airport.horizon) steps
        → All (NamesHolder others) (route_reasons airport class others (request.Departure from to time queue) steps)
    unfolding route_reasons
    departure-named short =
        All-append (NamesHolder others) (listed (queue_reason airport class others time steps)) (wait_reasons airport class others (request.Departure from to time queue) steps (length steps))
        (queue-named time steps (both steps held.last short)) (departure-waits (NamesHolder others) (λ step arc seconds holder named. named))
      where
        both : (steps : List Step) → AtLast (IsHeldAfter airport class others node (time - queue) time) steps → AtLast (λ s. held_until airport class s < airport.horizon) steps
            → AtLast (λ s. s.leave < time → IsHeld airport others (segment_of s.arc) (held_until airport class s)) steps
        both [] last short = absurd last
        both (s ∷ []) last short = λ early. last early short
        both (s ∷ t ∷ steps) last short = both (t ∷ steps) last short

-- ---- the route that is picked

picked-arrival : (c : Conditions) (from to : Node) (time hold : ℕ) (way : Way) (steps : List Step) → IsForNew way → IsPickedBy c (request.Arrival from to time hold) way (Some steps)
    → (node : Node) × IsPickedArrival c (LeavesNodeWithin (layout_of c.airport) from time (time + hold)) node steps
picked-arrival c from to time hold New steps new (found.Route route labels, answers, e) =
    (to, subst (IsPickedArrival c (LeavesNodeWithin (layout_of c.airport) from time (time + hold)) to) (sym (same_Some steps route e)) answers.1)
picked-arrival c from to time hold New steps new (found.NoRoute labels, answers, e) = absurd (none-some steps (sym e))
picked-arrival c from to time hold (ToAny nodes) steps new (chosen.Route node route labels, answers, e) =
    (node, subst (IsPickedArrival c (LeavesNodeWithin (layout_of c.airport) from time (time + hold)) node) (sym (same_Some steps route e)) answers.1.1)
picked-arrival c from to time hold (ToAny nodes) steps new (chosen.NoRoute labels, answers, e) = absurd (none-some steps (sym e))
picked-arrival c from to time hold (On old again) steps new picked = absurd new

picked-departure : (c : Conditions) (from to : Node) (time queue : ℕ) (way : Way) (steps : List Step) → IsPickedBy c (request.Departure from to time queue) way (Some steps)
    → (node : Node) × IsPickedDeparture c (ReachesNodeWithin (layout_of c.airport) node (time - queue) time) from steps
picked-departure c from to time queue New steps (found.Route route labels, answers, e) =
    (to, subst (IsPickedDeparture c (ReachesNodeWithin (layout_of c.airport) to (time - queue) time) from) (sym (same_Some steps route e)) answers.1)
picked-departure c from to time queue New steps (found.NoRoute labels, answers, e) = absurd (none-some steps (sym e))
picked-departure c from to time queue (ToAny nodes) steps (chosen.Route node route labels, answers, e) =
    (node, subst (IsPickedDeparture c (ReachesNodeWithin (layout_of c.airport) node (time - queue) time) from) (sym (same_Some steps route e)) answers.2)
picked-departure c from to time queue (ToAny nodes) steps (chosen.NoRoute labels, answers, e) = absurd (none-some steps (sym e))
picked-departure c from to time queue (On old again) steps (found.Route route labels, answers, e) =
    (to, subst (IsPickedDeparture c (ReachesNodeWithin (layout_of c.airport) to (time - queue) time) from) (sym (same_Some steps route e)) answers.1)
picked-departure c from to time queue (On old again) steps (found.NoRoute labels, answers, e) = absurd (none-some steps (sym e))

-- ---- all lines

-- what is so of the lines that tell no hold, no queue and no wait
record IsOfSeconds (P : Reason → Type 0) : Type 0 where
  answer : (second : Option ℕ) → P (reason.Answer second)
  alone : (second : Option ℕ) → P (reason.Alone second)
  without : (name : List ℕ) (second : ℕ) → P (reason.Without name second)
  later : (begin end : ℕ) → P (reason.Later begin end)
  sooner : (begin end : ℕ) → P (reason.Sooner begin end)

holder-seconds : (others : State) → IsOfSeconds (NamesHolder others)
holder-seconds others = record { answer = λ _. tt; alone = λ _. tt; without = λ _ _. tt; later = λ _ _. tt; sooner = λ _ _. tt }

wait-seconds : (others : State) → IsOfSeconds (NamesWaitedFor others)
wait-seconds others = record { answer = λ _. tt; alone = λ _. tt; without = λ _ _. tt; later = λ _ _. tt; sooner = λ _ _. tt }

module _ (airport : Airport) (asking : Asking) (others : State) (reasons : List Reason) (told : IsRouteExplained airport asking others reasons) (P : Reason → Type 0) (of_seconds : IsOfSeconds P) where
  left_out-each : (answer : Option ℕ) (names : List (List ℕ)) (lines : List Reason) → AreWithout airport asking others answer names lines → All P lines
  left_out-each answer [] lines none = rw none (All-nil P)
  left_out-each answer (name ∷ names) lines (one, more, is_one, is, are) = rw is (All-append P one more (of_one is_one) (left_out-each answer names more are)) where
    of_one : IsWithout airport asking others answer name one → All P one
    of_one (inl (second, best, better, e)) = rw e (All-cons P (reason.Without name second) [] (of_seconds.without name second) (All-nil P))
    of_one (inr (none, unbettered)) = rw none (All-nil P)

  span-one : (asked : Request) (steps : List Step) → P (span_reason asked steps)
  span-one request.Filed steps = of_seconds.later (begin_of steps) (end_of steps)
  span-one (request.Arrival from to time hold) steps = of_seconds.later (begin_of steps) (end_of steps)
  span-one (request.Departure from to time queue) steps = of_seconds.sooner (begin_of steps) (end_of steps)

  freed-each : (answer : Option ℕ) (route : Option (List Step)) → All P (freed_reasons asking.request answer route)
  freed-each answer None = All-nil P
  freed-each answer (Some steps) = elim (cases_Bool (is_better asking.request (second_of asking.request steps) answer)) [
    | inl better ↦ rw better (All-cons P (span_reason asking.request steps) [] (span-one asking.request steps) (All-nil P))
    | inr other ↦ rw other (All-nil P)
  ]

  -- where it is so of the lines of the route, it is so of all
  explained-each : ((steps : List Step) → told.answer ≡ Some steps → All P (route_reasons airport asking.class others asking.request steps)) → All P reasons
  explained-each each =
      let answer : Option ℕ = second_found asking.request told.answer in
      let route : List Reason = option_map_or (route_reasons airport asking.class others asking.request) told.answer [] in
      let freed : List Reason = freed_reasons asking.request answer told.free in
      rw told.whole
      (All-cons P (reason.Answer answer) (reason.Alone told.alone ∷ (told.others_left_out ++ (freed ++ route))) (of_seconds.answer answer)
      (All-cons P (reason.Alone told.alone) (told.others_left_out ++ (freed ++ route)) (of_seconds.alone told.alone)
      (All-append P told.others_left_out (freed ++ route) (left_out-each answer (holder_names others) told.others_left_out told.best_without)
      (All-append P freed route (freed-each answer told.free) (go told.answer refl)))))
    where
      go : (o : Option (List Step)) → told.answer ≡ o → All P (option_map_or (route_reasons airport asking.class others asking.request) o [])
      go None e = All-nil P
      go (Some steps) e = each steps e

module _ (airport : Airport) (asking : Asking) (others : State) (reasons : List Reason) (from to : Node) (time : ℕ) where
  pub arrivals-named : (hold : ℕ) → asking.request ≡ request.Arrival from to time hold → IsForNew asking.way → IsRouteExplained airport asking others reasons → All (NamesHolder others) reasons
  arrivals-named hold is new told =
      explained-each airport asking others reasons told (NamesHolder others) (holder-seconds others)
      (λ steps e.
      (let picked = picked-arrival (conditions_in airport asking.class others) from to time hold asking.way steps new (rw (is, e) at told.found) in
      rw is (arrival-named airport asking.class others from to picked.0 time hold steps picked.1)))

  module _ (queue : ℕ) (is : asking.request ≡ request.Departure from to time queue) (told : IsRouteExplained airport asking others reasons) where
    picked-of : (steps : List Step) → told.answer ≡ Some steps
        → (node : Node) × IsPickedDeparture (conditions_in airport asking.class others) (ReachesNodeWithin (layout_of airport) node (time - queue) time) from steps
    picked-of steps e = picked-departure (conditions_in airport asking.class others) from to time queue asking.way steps (rw (is, e) at told.found)

    pub departures-waited : All (NamesWaitedFor others) reasons
    departures-waited =
        explained-each airport asking others reasons told (NamesWaitedFor others) (wait-seconds others)
        (λ steps e. (let picked = picked-of steps e in rw is (departure-waited airport asking.class others from to picked.0 time queue steps picked.1)))

    pub departures-named : IfSome told.answer (AtLast (λ last. held_until airport asking.class last < airport.horizon)) → All (NamesHolder others) reasons
    departures-named short =
        explained-each airport asking others reasons told (NamesHolder others) (holder-seconds others)
        (λ steps e. (let picked = picked-of steps e in rw is (departure-named airport asking.class others from to picked.0 time queue steps picked.1 (rw e at short))))
