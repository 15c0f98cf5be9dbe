-- What stays in a late repair: the holders that are not in the way, and of each flight that had begun the steps that it had entered.
use Rattle.std.proofs.Common.{◌≡◌, ℕ, not, ◌||◌, ◌<◌, ◌≤◌, List, [], ◌∷◌, ◌++◌, length, map, IsTrue, IsFalse, Option, Some, None, refl, sym, ap, subst, arith, inl, inr, ◌⊎◌, ◌↔◌}
use Rattle.std.specs.Prelude.{Contains, All, AllPairs, MatchOption, bytes_eq}
use Rattle.std.proofs.lemmas.Bool.{cases_Bool, or_cases, not-true, not_from_false, both_ways, false_from_ne_true}
use Rattle.std.proofs.lemmas.List.{length-append}
use Rattle.std.proofs.lemmas.List.Elements.{All-contains, All-contains_itself, All-weaker, All-head, All-tail}
use Rattle.std.specs.Cmp.Lexicographic.{bytes_decides}
use Rattle.taxi_base.specs.declared.numbers.Node.{Node}
use Rattle.taxi_base.specs.declared.rows.Step.{Step}
use Rattle.taxi_base.specs.declared.answers.Request.{Request}
use Rattle.taxi_base.specs.declared.answers.Request.TheVariants.{Filed, Arrival, Departure}
use Rattle.taxi_base.specs.declared.answers.Flight.{Flight}
use Rattle.taxi_base.specs.declared.answers.Party.{Party}
use Rattle.taxi_base.specs.declared.answers.Found.{Found}
use Rattle.taxi_base.specs.declared.answers.Found.TheVariants.{Route, NoRoute}
use Rattle.taxi_base.specs.Airport.{Airport}
use Rattle.taxi_base.specs.Walks.{Conditions, IsFeasibleWalk, AtFirst, Resumes}
use Rattle.taxi_base.specs.State.{State, flight_named, without, with_route, conditions_of, step_begun, steps_done, IsSound, IsResumed, IsFrozenWalk}
use Rattle.taxi_base.specs.Late.{Delay, Meeting, IsDelay, is_late, soonest_leave, steps_kept, flight_meets, party_meets, flight_at_once, base_state, request_sought, time_sought, IsWalkSought, AnswersTurn, request_routed, after_turn, IsTurnOfFlight, IsTurnOf, AreTurns, IsRepaired, KeepsEntered}
use Rattle.taxi_base.proofs.ListLaws.{Contains-first, Contains-filter, filter-Contains, Contains-flat_map, AllPairs-first, AllPairs-rest}
use Rattle.taxi_base.proofs.KeptSteps.{IsAbout, about-begun, about-done, about-kept, about-again, about-KeepsEntered, walk-about}
use Rattle.taxi_base.proofs.OtherHolds.{named-there, there-named}
use Rattle.taxi_base.proofs.BaseLaws.{on_steps-there}
use Rattle.taxi_base.proofs.TurnLaws.{IsAmid, put_in-there, put_in-stays, best-one, answer-best}
use Rattle.taxi_base.proofs.LateLaws.{turn-amid, base-amid, names-once, moves-named, meets-named}

-- ---- a flight that goes on

-- What goes on with the last of the kept steps keeps the steps that were entered.
frozen-keeps : (c : Conditions) (time later : ℕ) (steps front : List Step) (begun : Step) (back : List Step) (leave : ℕ) (to from : Node) (asked hold : ℕ) (walk : List Step)
    → IsAbout time steps front begun back → time ≤ later → IsFrozenWalk c (front ++ record begun { leave = leave } ∷ []) later to (Arrival from to asked hold) walk
    → KeepsEntered time steps walk
frozen-keeps c time later steps front begun back leave to from asked hold walk about by frozen =
    go resumed.rest resumed.joined resumed.begins
  where
    again : IsAbout later (front ++ record begun { leave = leave } ∷ []) front (record begun { leave = leave }) []
    again = about-again time later steps front begun back leave about by

    resumed : IsResumed c front (record begun { leave = leave }) later to walk
    resumed =
        let begins : step_begun later (front ++ record begun { leave = leave } ∷ []) ≡ Some (record begun { leave = leave }) =
        about-begun later (front ++ record begun { leave = leave } ∷ []) front (record begun { leave = leave }) [] again in
        let done : steps_done later (front ++ record begun { leave = leave } ∷ []) ≡ front = about-done later (front ++ record begun { leave = leave } ∷ []) front (record begun { leave = leave }) [] again in
        subst (λ front. IsResumed c front (record begun { leave = leave }) later to walk) done (rw begins at frozen)

    go : (rest : List Step) → walk ≡ front ++ rest → AtFirst (Resumes (record begun { leave = leave }) later) rest → KeepsEntered time steps walk
    go [] joined begins = absurd begins
    go (t ∷ rest) joined begins = subst (KeepsEntered time steps) (sym joined) (about-KeepsEntered time steps front begun back t rest about begins.arc begins.enter)

-- So does what a flight that had begun seeks.
sought-keeps : (c : Conditions) (request : Request) (time later : ℕ) (steps front : List Step) (begun : Step) (back : List Step) (leave : ℕ) (kept walk : List Step)
    → kept ≡ front ++ record begun { leave = leave } ∷ [] → IsAbout time steps front begun back → time ≤ later → IsWalkSought c (request_sought request kept) kept later walk
    → KeepsEntered time steps walk
sought-keeps c Filed time later steps front begun back leave kept walk e about by sought = absurd sought
sought-keeps c (Arrival from to asked hold) time later steps front begun back leave kept walk e about by sought =
    frozen-keeps c time later steps front begun back leave to from asked hold walk about by (subst (λ ks. IsFrozenWalk c ks later to (Arrival from to asked hold) walk) e sought)
sought-keeps c (Departure from to asked queue) time later steps front begun back leave [] walk e about by sought =
    absurd (omega (arith, ap length e, length-append front (record begun { leave = leave } ∷ [])))
sought-keeps c (Departure from to asked queue) time later steps front begun back leave (s ∷ kept) walk e about by sought =
    frozen-keeps c time later steps front begun back leave to from asked queue walk about by (subst (λ ks. IsFrozenWalk c ks later to (Arrival from to asked queue) walk) e sought)

-- ---- at once

-- In the base state a flight that had begun is in force, with the steps that it had entered.
pub at_once-keeps : (airport : Airport) (state : State) (delay : Delay) → IsSound airport state → IsDelay airport state delay → (x : Flight) (begun : Step) → Contains state.flights x
    → step_begun delay.time x.steps ≡ Some begun → (y : Flight) × Contains (base_state airport state delay).flights y × (y.name ≡ x.name) × KeepsEntered delay.time x.steps y.steps
at_once-keeps airport state delay sound is x begun there e = elim (cases_Bool (is_late delay x || flight_meets airport delay x)) [
  | inr stays ↦ (x, Contains-flat_map (flight_at_once airport delay) state.flights x x there (rw stays (Contains-first x [])), refl, refl)
  | inl moves ↦ (
    record x { steps = steps_kept airport delay x },
    Contains-flat_map (flight_at_once airport delay) state.flights x (record x { steps = steps_kept airport delay x }) there
        (rw moves (on_steps-there x (steps_kept airport delay x) some)),
    refl,
    subst (KeepsEntered delay.time x.steps) (sym kept.1) (about-KeepsEntered delay.time x.steps about.0 begun about.1 (record begun { leave = kept.0 }) [] about.2 refl refl),
  )
] where
  about : (front back : List Step) × IsAbout delay.time x.steps front begun back
  about = walk-about (conditions_of airport state x) delay.time x.steps begun
      (All-contains (λ f. IsFeasibleWalk (conditions_of airport state f) f.steps) state.flights x sound.feasible.walks there) e

  kept : (leave : ℕ) × (steps_kept airport delay x ≡ about.0 ++ record begun { leave = leave } ∷ [])
  kept = elim (cases_Bool (is_late delay x)) [
    | inl late ↦ (delay.until, rw late (about-kept delay.time x.steps about.0 begun about.1 about.2 (λ _. delay.until)))
    | inr other ↦ (soonest_leave airport x.class delay.time begun, rw other (about-kept delay.time x.steps about.0 begun about.1 about.2 (soonest_leave airport x.class delay.time)))
  ]

  some : 0 < length (steps_kept airport delay x)
  some = omega (arith, ap length kept.1, length-append about.0 (record begun { leave = kept.0 } ∷ []))

-- ---- a turn

module _ (airport : Airport) (state : State) (delay : Delay) (now : State) (name : List ℕ) (told : Option Found) (next : State) (turn : IsTurnOf airport delay state name now told next)
    (sound : IsSound airport state) (names : List (List ℕ)) (amid : IsAmid airport state delay now (name ∷ names)) (once : All (λ n. IsFalse (bytes_eq n name)) names) where
  -- after a turn either all is as before, or another flight of the name is in force, or none
  after-turn : (next ≡ now) ⊎ ((x : Flight) × (x.name ≡ name) × (kept : List Step) × (found : Found) × (next ≡ after_turn now x kept found))
  after-turn = go (flight_named name state.flights) refl turn where
    of_flight : (x : Flight) → x.name ≡ name → (told : Option Found) → IsTurnOfFlight airport delay x now told next
        → (next ≡ now) ⊎ ((x : Flight) × (x.name ≡ name) × (kept : List Step) × (found : Found) × (next ≡ after_turn now x kept found))
    of_flight x e None h = inl h.1
    of_flight x e (Some found) h = inr (x, e, steps_kept airport delay x, found, h.1)

    go : (o : Option Flight) → flight_named name state.flights ≡ o → MatchOption o ((told ≡ None) × (next ≡ now)) (λ flight. IsTurnOfFlight airport delay flight now told next)
        → (next ≡ now) ⊎ ((x : Flight) × (x.name ≡ name) × (kept : List Step) × (found : Found) × (next ≡ after_turn now x kept found))
    go None e h = inl h.1
    go (Some x) e h = of_flight x (named-there (λ (f : Flight). f.name) name state.flights x e).1 told h

  -- A turn leaves each flight of another name, and each party of another name.
  pub turn-flight : (y : Flight) → Contains now.flights y → IsFalse (bytes_eq y.name name) → Contains next.flights y
  turn-flight y there differ = elim after-turn [
    | inl same ↦ subst (λ s. Contains s.flights y) (sym same) there
    | inr changed ↦ subst (λ s. Contains s.flights y) (sym changed.4) (go changed.0 changed.1 changed.2 changed.3)
  ] where
    left : (x : Flight) → x.name ≡ name → Contains (without x.name now).flights y
    left x e = Contains-filter (λ (f : Flight). not (bytes_eq f.name x.name)) now.flights y there (not_from_false _ (subst (λ n. IsFalse (bytes_eq y.name n)) (sym e) differ))

    go : (x : Flight) → x.name ≡ name → (kept : List Step) (found : Found) → Contains (after_turn now x kept found).flights y
    go x e kept (Route steps labels) = put_in-stays (λ (f : Flight). f.name) (record x { request = request_routed x.request kept; steps = steps }) y (without x.name now).flights (left x e)
    go x e [] (NoRoute labels) = left x e
    go x e (s ∷ kept) (NoRoute labels) = put_in-stays (λ (f : Flight). f.name) (record x { request = Filed; steps = s ∷ kept }) y (without x.name now).flights (left x e)

  pub turn-party : (p : Party) → Contains now.parties p → IsFalse (bytes_eq p.name name) → Contains next.parties p
  turn-party p there differ = elim after-turn [
    | inl same ↦ subst (λ s. Contains s.parties p) (sym same) there
    | inr changed ↦ subst (λ s. Contains s.parties p) (sym changed.4) (go changed.0 changed.1 changed.2 changed.3)
  ] where
    left : (x : Flight) → x.name ≡ name → Contains (without x.name now).parties p
    left x e = Contains-filter (λ (p : Party). not (bytes_eq p.name x.name)) now.parties p there (not_from_false _ (subst (λ n. IsFalse (bytes_eq p.name n)) (sym e) differ))

    go : (x : Flight) → x.name ≡ name → (kept : List Step) (found : Found) → Contains (after_turn now x kept found).parties p
    go x e kept (Route steps labels) = left x e
    go x e [] (NoRoute labels) = left x e
    go x e (s ∷ kept) (NoRoute labels) = left x e

  -- And it brings no party in.
  pub turn-parties : (p : Party) → Contains next.parties p → Contains now.parties p
  turn-parties p there = elim after-turn [
    | inl same ↦ subst (λ s. Contains s.parties p) same there
    | inr changed ↦ go changed.0 changed.2 changed.3 (subst (λ s. Contains s.parties p) changed.4 there)
  ] where
    go : (x : Flight) (kept : List Step) (found : Found) → Contains (after_turn now x kept found).parties p → Contains now.parties p
    go x kept (Route steps labels) h = (filter-Contains (λ (p : Party). not (bytes_eq p.name x.name)) now.parties p h).0
    go x [] (NoRoute labels) h = (filter-Contains (λ (p : Party). not (bytes_eq p.name x.name)) now.parties p h).0
    go x (s ∷ kept) (NoRoute labels) h = (filter-Contains (λ (p : Party). not (bytes_eq p.name x.name)) now.parties p h).0

  -- a flight that had begun is in force, with the steps that it had entered
  abbrev Keeps : Flight → State → Type 0
  Keeps x state = (y : Flight) × Contains state.flights y × (y.name ≡ x.name) × KeepsEntered delay.time x.steps y.steps

  -- Its own turn keeps them, and so does another's.
  pub turn-keeps : delay.time ≤ delay.until → (x : Flight) (begun : Step) → Contains state.flights x → step_begun delay.time x.steps ≡ Some begun → Keeps x now → Keeps x next
  turn-keeps by x begun there e keeps = elim (cases_Bool (bytes_eq x.name name)) [
    | inr differ ↦ (keeps.0, turn-flight keeps.0 keeps.1 (subst (λ n. IsFalse (bytes_eq n name)) (sym keeps.2) differ), keeps.2, keeps.3)
    | inl same ↦
        let here : x.name ≡ name = (bytes_decides x.name name).0 same in
        let found : flight_named name state.flights ≡ Some x = subst (λ n. flight_named n state.flights ≡ Some x) here (there-named (λ (f : Flight). f.name) state.flights x sound.feasible.ordered there) in
        own here told (rw found at turn)
  ] where
    about : (front back : List Step) × IsAbout delay.time x.steps front begun back
    about = walk-about (conditions_of airport state x) delay.time x.steps begun
        (All-contains (λ f. IsFeasibleWalk (conditions_of airport state f) f.steps) state.flights x sound.feasible.walks there) e

    kept : (leave : ℕ) × (steps_kept airport delay x ≡ about.0 ++ record begun { leave = leave } ∷ [])
    kept = elim (cases_Bool (is_late delay x)) [
      | inl late ↦ (delay.until, rw late (about-kept delay.time x.steps about.0 begun about.1 about.2 (λ _. delay.until)))
      | inr other ↦ (soonest_leave airport x.class delay.time begun, rw other (about-kept delay.time x.steps about.0 begun about.1 about.2 (soonest_leave airport x.class delay.time)))
    ]

    later : delay.time ≤ time_sought delay x
    later = elim (cases_Bool (is_late delay x)) [
      | inl late ↦ rw late by
      | inr other ↦ rw other (omega arith)
    ]

    on : (request : Request) (steps : List Step) → KeepsEntered delay.time x.steps steps → Keeps x (with_route x request steps now)
    on request steps keeps = (record x { request = request; steps = steps }, put_in-there (λ (f : Flight). f.name) (record x { request = request; steps = steps }) (without x.name now).flights, refl, keeps)

    after : (here : x.name ≡ name) (found : Found)
        → AnswersTurn (conditions_of airport now x) (request_sought x.request (steps_kept airport delay x)) (steps_kept airport delay x) (time_sought delay x) found
        → Keeps x (after_turn now x (steps_kept airport delay x) found)
    after here (Route steps labels) answers =
        let sought : IsWalkSought (conditions_of airport now x) (request_sought x.request (steps_kept airport delay x)) (steps_kept airport delay x) (time_sought delay x) steps =
        best-one (request_sought x.request (steps_kept airport delay x)) (IsWalkSought (conditions_of airport now x) (request_sought x.request (steps_kept airport delay x)) (steps_kept airport delay x) (time_sought delay x)) steps
        (answer-best airport state delay sound now name names amid once x there here (Route steps labels) answers) in
        on (request_routed x.request (steps_kept airport delay x)) steps
        (sought-keeps (conditions_of airport now x) x.request delay.time (time_sought delay x) x.steps about.0 begun about.1 kept.0 (steps_kept airport delay x) steps kept.1 about.2 later sought)
    after here (NoRoute labels) answers = none (steps_kept airport delay x) kept.1 where
      none : (ks : List Step) → ks ≡ about.0 ++ record begun { leave = kept.0 } ∷ [] → Keeps x (after_turn now x ks (NoRoute labels))
      none [] is = absurd (omega (arith, ap length is, length-append about.0 (record begun { leave = kept.0 } ∷ [])))
      none (s ∷ ks) is = on Filed (s ∷ ks) (subst (KeepsEntered delay.time x.steps) (sym is)
          (about-KeepsEntered delay.time x.steps about.0 begun about.1 (record begun { leave = kept.0 }) [] about.2 refl refl))

    own : (here : x.name ≡ name) (told : Option Found) → IsTurnOfFlight airport delay x now told next → Keeps x next
    own here None h = subst (Keeps x) (sym h.1) keeps
    own here (Some found) h = subst (Keeps x) (sym h.1) (after here found h.0)

-- ---- all turns

module _ (airport : Airport) (state : State) (delay : Delay) (sound : IsSound airport state) where
  abbrev Turning : List (List ℕ) → State → List (Option Found) → State → Type 0
  Turning names now tells after =
      IsAmid airport state delay now names × AllPairs (λ a b. IsFalse (bytes_eq b a)) names × AreTurns airport delay state names now tells after

  -- what each turn keeps of a state, all turns keep
  turns-keep : (P : State → Type 0) (Out : List ℕ → Type 0)
      → ((now : State) (name : List ℕ) (told : Option Found) (next : State) → IsTurnOf airport delay state name now told next → (names : List (List ℕ)) → IsAmid airport state delay now (name ∷ names)
      → All (λ n. IsFalse (bytes_eq n name)) names → Out name → P now → P next)
      → (names : List (List ℕ)) (now : State) (tells : List (Option Found)) (after : State) → Turning names now tells after → All Out names → P now → P after
  turns-keep P Out step [] now [] after turning out here = subst P (sym turning.2) here
  turns-keep P Out step [] now (told ∷ tells) after turning out here = absurd turning.2
  turns-keep P Out step (name ∷ names) now [] after turning out here = absurd turning.2
  turns-keep P Out step (name ∷ names) now (told ∷ tells) after turning out here =
      let once = AllPairs-first (λ a b. IsFalse (bytes_eq b a)) name names turning.1 in
      turns-keep P Out step names turning.2.0 tells after
      (turn-amid airport state delay sound now name names told turning.2.0 turning.0 once turning.2.1, AllPairs-rest (λ a b. IsFalse (bytes_eq b a)) name names turning.1, turning.2.2)
      (All-tail Out name names out)
      (step now name told turning.2.0 turning.2.1 names turning.0 once (All-head Out name names out) here)

  module _ (meetings : List Meeting) (tells : List (Option Found)) (after : State) (is : IsDelay airport state delay) (repaired : IsRepaired airport state delay meetings tells after) where
    abbrev in_turn : List (List ℕ)
    in_turn = delay.flight.name ∷ map (λ (m : Meeting). m.name) meetings

    turning : Turning in_turn (base_state airport state delay) tells after
    turning = (
      base-amid airport state delay sound.feasible is meetings repaired.in_the_way sound,
      names-once airport state delay sound.feasible is meetings repaired.in_the_way,
      repaired.turns,
    )

    -- A flight that is neither late nor in the way is as it was.
    pub repaired-flight : (x : Flight) → Contains state.flights x → IsFalse (is_late delay x) → IsFalse (flight_meets airport delay x) → Contains after.flights x
    repaired-flight x there other clear =
        turns-keep (λ s. Contains s.flights x) (λ n. IsFalse (bytes_eq x.name n))
        (λ now name told next turn names amid once differ here. turn-flight airport state delay now name told next turn sound names amid once x here differ)
        in_turn (base_state airport state delay) tells after turning
        (All-weaker (Contains in_turn) (λ n. IsFalse (bytes_eq x.name n)) (λ n in_names. false_from_ne_true _ (λ same. stays
        (moves-named airport state delay sound.feasible is meetings repaired.in_the_way x there (subst (Contains in_turn) (sym ((bytes_decides x.name n).0 same)) in_names)))) in_turn (All-contains_itself in_turn))
        (Contains-flat_map (flight_at_once airport delay) state.flights x x there (rw (other, clear) (Contains-first x [])))
      where
        stays : IsTrue (is_late delay x || flight_meets airport delay x) → ⊥
        stays moves = elim (or_cases _ _ moves) [ inl late ↦ both_ways _ other late | inr meets ↦ both_ways _ clear meets ]

    -- The parties are those that are not in the way.
    pub repaired-party : (p : Party) → Contains after.parties p ↔ (Contains state.parties p × IsFalse (party_meets airport delay p))
    repaired-party p = (only, kept) where
      kept : Contains state.parties p × IsFalse (party_meets airport delay p) → Contains after.parties p
      kept h =
          turns-keep (λ s. Contains s.parties p) (λ n. IsFalse (bytes_eq p.name n))
          (λ now name told next turn names amid once differ here. turn-party airport state delay now name told next turn sound names amid once p here differ)
          in_turn (base_state airport state delay) tells after turning
          (All-weaker (Contains in_turn) (λ n. IsFalse (bytes_eq p.name n)) (λ n in_names. false_from_ne_true _ (λ same. both_ways _ h.1
          (meets-named airport state delay sound.feasible is meetings repaired.in_the_way p h.0 (subst (Contains in_turn) (sym ((bytes_decides p.name n).0 same)) in_names)))) in_turn (All-contains_itself in_turn))
          (Contains-filter (λ (q : Party). not (party_meets airport delay q)) state.parties p h.0 (not_from_false _ h.1))

      only : Contains after.parties p → Contains state.parties p × IsFalse (party_meets airport delay p)
      only h =
          let found = turns-keep (λ s. (q : Party) → Contains s.parties q → Contains (base_state airport state delay).parties q) (λ n. Unit)
          (λ now name told next turn names amid once out here q there. here q (turn-parties airport state delay now name told next turn sound names amid once q there))
          in_turn (base_state airport state delay) tells after turning
          (All-weaker (Contains in_turn) (λ n. Unit) (λ n there. tt) in_turn (All-contains_itself in_turn)) (λ q there. there) p h in
          let kept = filter-Contains (λ (q : Party). not (party_meets airport delay q)) state.parties p found in
          (kept.0, not-true _ kept.1)

    -- A flight that had begun is in force, with the steps that it had entered.
    pub repaired-keeps : (x : Flight) (begun : Step) → Contains state.flights x → step_begun delay.time x.steps ≡ Some begun
        → (y : Flight) × Contains after.flights y × (y.name ≡ x.name) × KeepsEntered delay.time x.steps y.steps
    repaired-keeps x begun there e =
        turns-keep (λ s. (y : Flight) × Contains s.flights y × (y.name ≡ x.name) × KeepsEntered delay.time x.steps y.steps) (λ n. Unit)
        (λ now name told next turn names amid once out here. turn-keeps airport state delay now name told next turn sound names amid once by x begun there e here)
        in_turn (base_state airport state delay) tells after turning
        (All-weaker (Contains in_turn) (λ n. Unit) (λ n there. tt) in_turn (All-contains_itself in_turn)) (at_once-keeps airport state delay sound is x begun there e)
      where
        by : delay.time ≤ delay.until
        by = omega (arith, is.on_it, is.late)
