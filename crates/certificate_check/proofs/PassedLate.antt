-- What stays of the holders where a block passes for a late flight: the flights and parties that are not in the way, and of each flight
-- that had begun the steps that it had entered.
use Rattle.std.proofs.Common.{◌≡◌, ◌∙◌, ℕ, ◌≤◌, not, ◌||◌, List, [], ◌∷◌, ◌++◌, length, map, IsTrue, IsFalse, Some, refl, sym, ap, subst, arith, inl, inr, ◌↔◌}
use Rattle.std.specs.Prelude.{All, Contains, bytes_eq, ⊤}
use Rattle.std.specs.Cmp.Lexicographic.{bytes_decides}
use Rattle.std.proofs.lemmas.Bool.{cases_Bool, or_cases, not-true, not_from_false, both_ways, false_from_ne_true}
use Rattle.std.proofs.lemmas.List.{length-append}
use Rattle.std.proofs.lemmas.List.Elements.{All-contains, All-contains_itself, All-weaker, All-head, All-tail}
use Rattle.taxi_base.specs.declared.numbers.Node.{Node}
use Rattle.taxi_base.specs.declared.rows.Step.{Step}
use Rattle.taxi_base.specs.declared.answers.Request.{Request}
use Rattle.taxi_base.specs.declared.answers.Request.TheVariants as request
use Rattle.taxi_base.specs.declared.answers.Flight.{Flight}
use Rattle.taxi_base.specs.declared.answers.Party.{Party}
use Rattle.taxi_base.specs.declared.answers.Found.{Found}
use Rattle.taxi_base.specs.declared.answers.Found.TheVariants as found
use Rattle.taxi_base.specs.Airport.{Airport}
use Rattle.taxi_base.specs.Walks.{Conditions, IsFeasibleWalk, AtFirst, Resumes}
use Rattle.taxi_base.specs.State.{State, flight_named, without, with_route, conditions_of, step_begun, steps_done, IsSound, IsResumed, IsFrozenWalk}
use Rattle.taxi_base.specs.Late.{Delay, IsDelay, is_late, soonest_leave, steps_kept, flight_meets, party_meets, flight_at_once, base_state, request_sought, time_sought, IsWalkSought, request_routed, after_turn, KeepsEntered}
use Rattle.taxi_base.proofs.ListLaws.{Contains-first, Contains-filter, filter-Contains, Contains-flat_map}
use Rattle.taxi_base.proofs.KeptSteps.{IsAbout, about-begun, about-done, about-kept, about-again, about-KeepsEntered, walk-about}
use Rattle.taxi_base.proofs.OtherHolds.{named-there, there-named}
use Rattle.taxi_base.proofs.TurnLaws.{put_in-there, put_in-stays}
use Rattle.taxi_base.proofs.LateLaws.{moves-named, meets-named}
use Rattle.taxi_base.proofs.StayLaws.{at_once-keeps}
use Rattle.taxi_text.specs.declared.command.Command.{Command}
use Rattle.taxi_text.specs.declared.command.Command.TheVariants as command
use Rattle.replies.specs.declared.block.Block.{Block}
use Rattle.replies.specs.declared.block.Block.TheVariants.{Late}
use Rattle.replies.specs.declared.entries.Entry.{Entry}
use Rattle.replies.specs.declared.entries.Entry.TheVariants as entry
use Rattle.replies.specs.declared.rule.Rule.{Rule}
use Rattle.replies.specs.declared.rule.Rule.TheVariants as rule
use Rattle.replies.specs.Repairs.{delay_of, names_in_turn, sought_on, sought_late, IsDroppedAsDue, TellsRepair}
use Rattle.replies.specs.Sought.{Sought, IsWalkFor}
use Rattle.replies.specs.Turns.{Turn, turns_of, after_turns}
use Rattle.replies.specs.Passes.{KeepsTurn, KeepsReply, IsPassed}
use Rattle.replies.proofs.RoutedLaws.{one-some}
use Rattle.replies.proofs.TurnLaws.{keeps-turns}
use Rattle.replies.proofs.EntryTurns.{turns_from}
use Rattle.replies.proofs.EntryPasses.{first-keeps, others-keep, cons-after}
use Rattle.replies.proofs.LateTold.{delay-is, delay-parts}
use Rattle.replies.proofs.LateTurns.{late-sought, late-begins, late-turns, asked-flight}
use Rattle.certificate_check.specs.PassedLate.{IsRepairPassed}

-- ---- what is sought keeps the steps that were entered

-- What goes on with the last of the kept steps keeps the steps that were entered.
frozen-keeps : (c : Conditions) (time later : ℕ) (steps front : List Step) (begun : Step) (back : List Step) (leave : ℕ) (to from : Node) (asked hold : ℕ) (walk : List Step)
    → IsAbout time steps front begun back → time ≤ later → IsFrozenWalk c (front ++ record begun { leave = leave } ∷ []) later to (request.Arrival from to asked hold) walk
    → KeepsEntered time steps walk
frozen-keeps c time later steps front begun back leave to from asked hold walk about by frozen =
    go resumed.rest resumed.joined resumed.begins
  where
    again : IsAbout later (front ++ record begun { leave = leave } ∷ []) front (record begun { leave = leave }) []
    again = about-again time later steps front begun back leave about by

    resumed : IsResumed c front (record begun { leave = leave }) later to walk
    resumed =
        let begins : step_begun later (front ++ record begun { leave = leave } ∷ []) ≡ Some (record begun { leave = leave }) =
        about-begun later (front ++ record begun { leave = leave } ∷ []) front (record begun { leave = leave }) [] again in
        let done : steps_done later (front ++ record begun { leave = leave } ∷ []) ≡ front = about-done later (front ++ record begun { leave = leave } ∷ []) front (record begun { leave = leave }) [] again in
        subst (λ front. IsResumed c front (record begun { leave = leave }) later to walk) done (rw begins at frozen)

    go : (rest : List Step) → walk ≡ front ++ rest → AtFirst (Resumes (record begun { leave = leave }) later) rest → KeepsEntered time steps walk
    go [] joined begins = absurd begins
    go (t ∷ rest) joined begins = subst (KeepsEntered time steps) (sym joined) (about-KeepsEntered time steps front begun back t rest about begins.arc begins.enter)

-- So does what a flight that had begun seeks.
sought-keeps : (c : Conditions) (asked : Request) (time later : ℕ) (steps front : List Step) (begun : Step) (back : List Step) (leave : ℕ) (kept walk : List Step)
    → kept ≡ front ++ record begun { leave = leave } ∷ [] → IsAbout time steps front begun back → time ≤ later → IsWalkSought c (request_sought asked kept) kept later walk
    → KeepsEntered time steps walk
sought-keeps c request.Filed time later steps front begun back leave kept walk e about by sought = absurd sought
sought-keeps c (request.Arrival from to asked hold) time later steps front begun back leave kept walk e about by sought =
    frozen-keeps c time later steps front begun back leave to from asked hold walk about by (subst (λ ks. IsFrozenWalk c ks later to (request.Arrival from to asked hold) walk) e sought)
sought-keeps c (request.Departure from to asked queue) time later steps front begun back leave [] walk e about by sought =
    absurd (omega (arith, ap length e, length-append front (record begun { leave = leave } ∷ [])))
sought-keeps c (request.Departure from to asked queue) time later steps front begun back leave (s ∷ kept) walk e about by sought =
    frozen-keeps c time later steps front begun back leave to from asked queue walk about by (subst (λ ks. IsFrozenWalk c ks later to (request.Arrival from to asked queue) walk) e sought)

-- the walks that are sought at a turn are those that its search is for
for-walk : (airport : Airport) (now : State) (x : Flight) (kept : List Step) (asked : Request) (from_on : ℕ) (steps : List Step)
    → IsWalkFor (sought_on airport now x kept asked from_on) steps → IsWalkSought (conditions_of airport now x) asked kept from_on steps
for-walk airport now x kept request.Filed from_on steps sought = absurd sought
for-walk airport now x kept (request.Arrival from to asked hold) from_on steps sought = sought
for-walk airport now x kept (request.Departure from to asked queue) from_on steps sought = sought

-- ---- one turn

module _ (airport : Airport) (state : State) (delay : Delay) where
  -- where a route is told at a turn, it is one that is sought
  abbrev pub IsToldWalk : State → Flight → Found → Type 0
  IsToldWalk now x (found.Route steps labels) =
      IsWalkSought (conditions_of airport now x) (request_sought x.request (steps_kept airport delay x)) (steps_kept airport delay x) (time_sought delay x) steps
  IsToldWalk now x (found.NoRoute labels) = ⊤

  -- a turn leaves each flight of another name
  turn-flight : (now : State) (x y : Flight) (kept : List Step) (answer : Found) → Contains now.flights y → IsFalse (bytes_eq y.name x.name) → Contains (after_turn now x kept answer).flights y
  turn-flight now x y kept answer there differ = go kept answer where
    left : Contains (without x.name now).flights y
    left = Contains-filter (λ (f : Flight). not (bytes_eq f.name x.name)) now.flights y there (not_from_false _ differ)

    go : (kept : List Step) (answer : Found) → Contains (after_turn now x kept answer).flights y
    go kept (found.Route steps labels) = put_in-stays (λ (f : Flight). f.name) (record x { request = request_routed x.request kept; steps = steps }) y (without x.name now).flights left
    go [] (found.NoRoute labels) = left
    go (s ∷ kept) (found.NoRoute labels) = put_in-stays (λ (f : Flight). f.name) (record x { request = request.Filed; steps = s ∷ kept }) y (without x.name now).flights left

  -- and each party of another name
  turn-party : (now : State) (x : Flight) (p : Party) (kept : List Step) (answer : Found) → Contains now.parties p → IsFalse (bytes_eq p.name x.name) → Contains (after_turn now x kept answer).parties p
  turn-party now x p kept answer there differ = go kept answer where
    left : Contains (without x.name now).parties p
    left = Contains-filter (λ (q : Party). not (bytes_eq q.name x.name)) now.parties p there (not_from_false _ differ)

    go : (kept : List Step) (answer : Found) → Contains (after_turn now x kept answer).parties p
    go kept (found.Route steps labels) = left
    go [] (found.NoRoute labels) = left
    go (s ∷ kept) (found.NoRoute labels) = left

  -- It brings no party in.
  turn-parties : (now : State) (x : Flight) (p : Party) (kept : List Step) (answer : Found) → Contains (after_turn now x kept answer).parties p → Contains now.parties p
  turn-parties now x p kept answer h = go kept answer h where
    go : (kept : List Step) (answer : Found) → Contains (after_turn now x kept answer).parties p → Contains now.parties p
    go kept (found.Route steps labels) h = (filter-Contains (λ (q : Party). not (bytes_eq q.name x.name)) now.parties p h).0
    go [] (found.NoRoute labels) h = (filter-Contains (λ (q : Party). not (bytes_eq q.name x.name)) now.parties p h).0
    go (s ∷ kept) (found.NoRoute labels) h = (filter-Contains (λ (q : Party). not (bytes_eq q.name x.name)) now.parties p h).0

  -- a flight that had begun is in force, with the steps that it had entered
  abbrev Keeps : Flight → State → Type 0
  Keeps x now = (y : Flight) × Contains now.flights y × (y.name ≡ x.name) × KeepsEntered delay.time x.steps y.steps

  module _ (sound : IsSound airport state) (by : delay.time ≤ delay.until) (x : Flight) (begun : Step) (there : Contains state.flights x) (e : step_begun delay.time x.steps ≡ Some begun) where
    about : (front back : List Step) × IsAbout delay.time x.steps front begun back
    about = walk-about (conditions_of airport state x) delay.time x.steps begun
        (All-contains (λ f. IsFeasibleWalk (conditions_of airport state f) f.steps) state.flights x sound.feasible.walks there) e

    kept : (leave : ℕ) × (steps_kept airport delay x ≡ about.0 ++ record begun { leave = leave } ∷ [])
    kept = elim (cases_Bool (is_late delay x)) [
      | inl late ↦ (delay.until, rw late (about-kept delay.time x.steps about.0 begun about.1 about.2 (λ _. delay.until)))
      | inr other ↦ (soonest_leave airport x.class delay.time begun, rw other (about-kept delay.time x.steps about.0 begun about.1 about.2 (soonest_leave airport x.class delay.time)))
    ]

    later : delay.time ≤ time_sought delay x
    later = elim (cases_Bool (is_late delay x)) [
      | inl late ↦ rw late by
      | inr other ↦ rw other (omega arith)
    ]

    on : (now : State) (asked : Request) (steps : List Step) → KeepsEntered delay.time x.steps steps → Keeps x (with_route x asked steps now)
    on now asked steps keeps = (record x { request = asked; steps = steps }, put_in-there (λ (f : Flight). f.name) (record x { request = asked; steps = steps }) (without x.name now).flights, refl, keeps)

    own : (now : State) (answer : Found) → IsToldWalk now x answer → Keeps x (after_turn now x (steps_kept airport delay x) answer)
    own now (found.Route steps labels) sought =
        on now (request_routed x.request (steps_kept airport delay x)) steps
        (sought-keeps (conditions_of airport now x) x.request delay.time (time_sought delay x) x.steps about.0 begun about.1 kept.0 (steps_kept airport delay x) steps kept.1 about.2 later sought)
    own now (found.NoRoute labels) sought = none (steps_kept airport delay x) kept.1 where
      none : (ks : List Step) → ks ≡ about.0 ++ record begun { leave = kept.0 } ∷ [] → Keeps x (after_turn now x ks (found.NoRoute labels))
      none [] is = absurd (omega (arith, ap length is, length-append about.0 (record begun { leave = kept.0 } ∷ [])))
      none (s ∷ ks) is = on now request.Filed (s ∷ ks) (subst (KeepsEntered delay.time x.steps) (sym is)
          (about-KeepsEntered delay.time x.steps about.0 begun about.1 (record begun { leave = kept.0 }) [] about.2 refl refl))

    -- Its own turn keeps them, and so does another's.
    turn-keeps : (now : State) (who : List ℕ) (y : Flight) → flight_named who state.flights ≡ Some y → (answer : Found) → IsToldWalk now y answer → Keeps x now
        → Keeps x (after_turn now y (steps_kept airport delay y) answer)
    turn-keeps now who y found answer sought keeps = elim (cases_Bool (bytes_eq x.name y.name)) [
      | inr differ ↦ (
        keeps.0,
        turn-flight now y keeps.0 (steps_kept airport delay y) answer keeps.1 (subst (λ n. IsFalse (bytes_eq n y.name)) (sym keeps.2) differ),
        keeps.2,
        keeps.3,
      )
      | inl same ↦
          let same_name : x.name ≡ y.name = (bytes_decides x.name y.name).0 same in
          let one : x ≡ y = one-some (flight_named y.name state.flights) x y
          (subst (λ n. flight_named n state.flights ≡ Some x) same_name (there-named (λ (f : Flight). f.name) state.flights x sound.feasible.ordered there))
          (there-named (λ (f : Flight). f.name) state.flights y sound.feasible.ordered (named-there (λ (f : Flight). f.name) who state.flights y found).0) in
          subst (λ (z : Flight). Keeps x (after_turn now z (steps_kept airport delay z) answer)) one (own now answer (subst (λ (z : Flight). IsToldWalk now z answer) (sym one) sought))
    ]

-- ---- all turns

module _ (airport : Airport) (state : State) (name : List ℕ) (time until : ℕ) (delay : Delay) (known : delay_of state name time until ≡ Some delay) where
  abbrev late : Command
  late = command.Late name time until

  abbrev turns : State → List (List ℕ × Entry) → List Turn
  turns = turns_from airport state late

  abbrev names : List (List ℕ × Entry) → List (List ℕ)
  names entries = map (λ told. told.0) entries

  -- what each turn keeps of a state, all turns keep
  module _ (P : State → Type 0) (Out : List ℕ → Type 0)
      (step : (now : State) (who : List ℕ) (x : Flight) → flight_named who state.flights ≡ Some x → (answer : Found) → IsToldWalk airport state delay now x answer → Out who → P now
      → P (after_turn now x (steps_kept airport delay x) answer)) where
    entries-keep : (now : State) (entries : List (List ℕ × Entry)) → All Out (names entries) → All (IsDroppedAsDue state) entries → ((r : Rule) → All (λ turn. KeepsTurn turn r) (turns now entries))
        → P now → P (after_turns now (turns now entries))
    entries-keep now [] out due keeps here = here
    entries-keep now ((who, entry.Dropped) ∷ entries) out due keeps here =
        entries-keep now entries (All-tail Out who (names entries) out) (All-tail (IsDroppedAsDue state) (who, entry.Dropped) entries due) keeps here
    entries-keep now ((who, entry.Route second steps labels) ∷ entries) out due keeps here =
        let asked = asked-flight state who (All-head (IsDroppedAsDue state) (who, entry.Route second steps labels) entries due) in
        let x : Flight = asked.0 in
        let s : Sought = sought_late airport delay x now in
        let sought = late-sought airport state name time until delay known now who x asked.1 asked.2 in
        let walk = first-keeps airport state late now (who, entry.Route second steps labels) entries s tt sought keeps rule.Walk in
        let told : IsToldWalk airport state delay now x (found.Route steps labels) =
        for-walk airport now x (steps_kept airport delay x) (request_sought x.request (steps_kept airport delay x)) (time_sought delay x) steps walk.0 in
        subst P (sym (cons-after airport state late now (who, entry.Route second steps labels) entries s tt sought))
        (entries-keep (s.with_steps steps) entries (All-tail Out who (names entries) out) (All-tail (IsDroppedAsDue state) (who, entry.Route second steps labels) entries due)
        (others-keep airport state late now (who, entry.Route second steps labels) entries s tt sought keeps)
        (step now who x asked.1 (found.Route steps labels) told (All-head Out who (names entries) out) here))
    entries-keep now ((who, entry.NoRoute labels) ∷ entries) out due keeps here =
        let asked = asked-flight state who (All-head (IsDroppedAsDue state) (who, entry.NoRoute labels) entries due) in
        let x : Flight = asked.0 in
        let s : Sought = sought_late airport delay x now in
        let sought = late-sought airport state name time until delay known now who x asked.1 asked.2 in
        subst P (sym (cons-after airport state late now (who, entry.NoRoute labels) entries s tt sought))
        (entries-keep s.with_none entries (All-tail Out who (names entries) out) (All-tail (IsDroppedAsDue state) (who, entry.NoRoute labels) entries due)
        (others-keep airport state late now (who, entry.NoRoute labels) entries s tt sought keeps)
        (step now who x asked.1 (found.NoRoute []) tt (All-head Out who (names entries) out) here))

-- ---- a block that passes

module _ (airport : Airport) (state : State) (sound : IsSound airport state) (line name : List ℕ) (time until : ℕ) (block : Block) (after : State)
    (is : IsRepairPassed airport state line name time until block after) where
  -- it tells of those in the way in turn
  tells : TellsRepair airport state name time until block
  tells = go (is.passed.keeps rule.Reply) where
    go : KeepsReply airport state line block → TellsRepair airport state name time until block
    go (inl memory) = absurd (is.no_memory memory.1)
    go (inr form) = rw (is.read, is.not_refused) at form

  abbrev delay : Delay
  delay = tells.delay

  abbrev told : List (List ℕ × Entry)
  told = tells.entries

  abbrev in_turn : List (List ℕ)
  in_turn = names_in_turn delay tells.meetings

  abbrev base : State
  base = base_state airport state delay

  late-is : IsDelay airport state delay
  late-is = delay-is airport state sound.feasible name time until is.not_refused delay tells.known

  turned : turns_of airport state line (Late name told) ≡ turns_from airport state (command.Late name time until) base told
  turned = late-turns airport state name time until delay tells.known line is.read name told

  passed_so : IsPassed airport state line (Late name told) after
  passed_so = subst (λ (b : Block). IsPassed airport state line b after) tells.block_is is.passed

  -- what the turns keep of the state that they begin in
  all-keep : (P : State → Type 0) (Out : List ℕ → Type 0)
      → ((now : State) (who : List ℕ) (x : Flight) → flight_named who state.flights ≡ Some x → (answer : Found) → IsToldWalk airport state delay now x answer → Out who → P now
      → P (after_turn now x (steps_kept airport delay x) answer))
      → All Out in_turn → P base → P after
  all-keep P Out step out here =
      subst P
      (sym (passed_so.after_it ∙ ap (λ (s : State). after_turns s (turns_of airport state line (Late name told))) (late-begins airport state name time until delay tells.known line is.read name told)
      ∙ ap (after_turns base) turned))
      (entries-keep airport state name time until delay tells.known P Out step base told (subst (All Out) (sym tells.in_turn) out) tells.dropped
      (λ r. subst (All (λ turn. KeepsTurn turn r)) turned (keeps-turns airport state line (Late name told) passed_so.keeps r)) here)

  pub passed-entered : (x : Flight) (begun : Step) → Contains state.flights x → step_begun time x.steps ≡ Some begun
      → (now : Flight) × Contains after.flights now × (now.name ≡ x.name) × KeepsEntered time x.steps now.steps
  passed-entered x begun there e =
      subst (λ t. (now : Flight) × Contains after.flights now × (now.name ≡ x.name) × KeepsEntered t x.steps now.steps) same
      (all-keep (Keeps airport state delay x) (λ n. Unit)
      (λ now who y found answer sought out here. turn-keeps airport state delay sound by x begun there begun_so now who y found answer sought here)
      (All-weaker (Contains in_turn) (λ n. Unit) (λ n there. tt) in_turn (All-contains_itself in_turn)) (at_once-keeps airport state delay sound late-is x begun there begun_so))
    where
      same : delay.time ≡ time
      same = (delay-parts state name time until delay tells.known).time_is

      begun_so : step_begun delay.time x.steps ≡ Some begun
      begun_so = subst (λ t. step_begun t x.steps ≡ Some begun) (sym same) e

      by : delay.time ≤ delay.until
      by = omega (arith, late-is.on_it, late-is.late)

  -- a flight that is neither late nor in the way
  kept-flight : (x : Flight) → Contains state.flights x → IsFalse (is_late delay x) → IsFalse (flight_meets airport delay x) → Contains after.flights x
  kept-flight x there other clear =
      all-keep (λ s. Contains s.flights x) (λ n. IsFalse (bytes_eq x.name n))
      (λ now who y found answer sought differ here. turn-flight airport state delay now y x (steps_kept airport delay y) answer here
      (subst (λ n. IsFalse (bytes_eq x.name n)) (sym (named-there (λ (f : Flight). f.name) who state.flights y found).1) differ))
      (All-weaker (Contains in_turn) (λ n. IsFalse (bytes_eq x.name n)) (λ n in_names. false_from_ne_true _ (λ same. stays
      (moves-named airport state delay sound.feasible late-is tells.meetings tells.in_the_way x there (subst (Contains in_turn) (sym ((bytes_decides x.name n).0 same)) in_names)))) in_turn (All-contains_itself in_turn))
      (Contains-flat_map (flight_at_once airport delay) state.flights x x there (rw (other, clear) (Contains-first x [])))
    where
      stays : IsTrue (is_late delay x || flight_meets airport delay x) → ⊥
      stays moves = elim (or_cases _ _ moves) [ inl late ↦ both_ways _ other late | inr meets ↦ both_ways _ clear meets ]

  -- the parties are those that are not in the way
  kept-party : (p : Party) → Contains after.parties p ↔ (Contains state.parties p × IsFalse (party_meets airport delay p))
  kept-party p = (only, kept) where
    kept : Contains state.parties p × IsFalse (party_meets airport delay p) → Contains after.parties p
    kept h =
        all-keep (λ s. Contains s.parties p) (λ n. IsFalse (bytes_eq p.name n))
        (λ now who y found answer sought differ here. turn-party airport state delay now y p (steps_kept airport delay y) answer here
        (subst (λ n. IsFalse (bytes_eq p.name n)) (sym (named-there (λ (f : Flight). f.name) who state.flights y found).1) differ))
        (All-weaker (Contains in_turn) (λ n. IsFalse (bytes_eq p.name n)) (λ n in_names. false_from_ne_true _ (λ same. both_ways _ h.1
        (meets-named airport state delay sound.feasible late-is tells.meetings tells.in_the_way p h.0 (subst (Contains in_turn) (sym ((bytes_decides p.name n).0 same)) in_names)))) in_turn (All-contains_itself in_turn))
        (Contains-filter (λ (q : Party). not (party_meets airport delay q)) state.parties p h.0 (not_from_false _ h.1))

    only : Contains after.parties p → Contains state.parties p × IsFalse (party_meets airport delay p)
    only h =
        let before = all-keep (λ s. (q : Party) → Contains s.parties q → Contains base.parties q) (λ n. Unit)
        (λ now who y found answer sought out here q there. here q (turn-parties airport state delay now y q (steps_kept airport delay y) answer there))
        (All-weaker (Contains in_turn) (λ n. Unit) (λ n there. tt) in_turn (All-contains_itself in_turn)) (λ q there. there) p h in
        let kept = filter-Contains (λ (q : Party). not (party_meets airport delay q)) state.parties p before in
        (kept.0, not-true _ kept.1)

  module _ (delayed : Delay) (known : delay_of state name time until ≡ Some delayed) where
    one-delay : delay ≡ delayed
    one-delay = one-some (delay_of state name time until) delay delayed tells.known known

    pub passed-flight : (x : Flight) → Contains state.flights x → IsFalse (is_late delayed x) → IsFalse (flight_meets airport delayed x) → Contains after.flights x
    passed-flight x there other clear =
        kept-flight x there (subst (λ d. IsFalse (is_late d x)) (sym one-delay) other) (subst (λ d. IsFalse (flight_meets airport d x)) (sym one-delay) clear)

    pub passed-party : (p : Party) → Contains after.parties p ↔ (Contains state.parties p × IsFalse (party_meets airport delayed p))
    passed-party p = subst (λ d. Contains after.parties p ↔ (Contains state.parties p × IsFalse (party_meets airport d p))) one-delay (kept-party p)
