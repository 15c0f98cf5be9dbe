-- The turns of a late repair: each answer is the best of the walks that are sought, each state is feasible, and the last is sound.
use Rattle.std.proofs.Common.{◌≡◌, ℕ, suc, zero, not, ◌+◌, ◌<◌, ◌≤◌, max, List, [], ◌∷◌, ◌++◌, length, Bool, true, false, IsTrue, IsFalse, Option, Some, None, refl, sym, ◌∙◌, ap, subst, arith, inl, inr, ◌⊎◌}
use Rattle.std.specs.Prelude.{Contains, All, AllPairs, MatchOption, bytes_eq}
use Rattle.std.specs.Option.{option_map_or}
use Rattle.std.proofs.lemmas.Bool.{or_from, not_from_false, both_ways, not-true, cond_both}
use Rattle.std.proofs.lemmas.Option.{none-some}
use Rattle.std.proofs.lemmas.List.Elements.{All-contains}
use Rattle.std.proofs.lemmas.List.Kept.{AllPairs-filter}
use Rattle.std.proofs.lemmas.List.Sums.{length-filter, count_by-le-length}
use Rattle.std.specs.Cmp.Lexicographic.{bytes_decides}
use Rattle.taxi_base.specs.declared.numbers.Node.{Node}
use Rattle.taxi_base.specs.declared.numbers.Segment.{Segment}
use Rattle.taxi_base.specs.declared.rows.Step.{Step}
use Rattle.taxi_base.specs.declared.answers.Request.{Request}
use Rattle.taxi_base.specs.declared.answers.Request.TheVariants.{Filed, Arrival, Departure}
use Rattle.taxi_base.specs.declared.answers.Flight.{Flight}
use Rattle.taxi_base.specs.declared.answers.Party.{Party}
use Rattle.taxi_base.specs.declared.answers.Found.{Found}
use Rattle.taxi_base.specs.declared.answers.Found.TheVariants.{Route, NoRoute}
use Rattle.taxi_base.specs.declared.rows.LabelRow.{LabelRow}
use Rattle.taxi_base.specs.Airport.{Airport, layout_of}
use Rattle.taxi_base.specs.Walks.{Conditions, IsFeasibleWalk, AtFirst, AtLast, IsRoute, LeavesNodeWithin, ReachesNode, Resumes, Meets}
use Rattle.taxi_base.specs.State.{State, name_precedes, put_in, without, with_route, holder_count, has_holder, conditions_of, step_begun, steps_done, IsFeasibleState, IsSound, IsResumed, IsFrozenWalk}
use Rattle.taxi_base.specs.Again.{IsBestFor}
use Rattle.taxi_base.specs.Late.{Delay, is_late, kept_steps, soonest_leave, steps_kept, request_sought, time_sought, IsWalkSought, AnswersTurn, IsBestSought, request_routed, after_turn}
use Rattle.taxi_base.proofs.ListLaws.{Contains-first, Contains-rest, Contains-cons_cases, Contains-filter, filter-Contains, AllPairs-first, AllPairs-rest}
use Rattle.taxi_base.proofs.NameLaws.{name_precedes-not_itself, name_precedes-one_way, put_in-cases, left_out-fewer, none_left}
use Rattle.taxi_base.proofs.WalkLaws.{Meets-IsFeasibleWalk}
use Rattle.taxi_base.proofs.StateLaws.{IsFeasibleState-without, IsFeasibleState-with_flight}
use Rattle.taxi_base.proofs.AgainLaws.{begun-parts, again-best}
use Rattle.taxi_base.proofs.OtherHolds.{named-once}

-- ---- the best of the walks that are sought

-- Of a flight that has kept steps these are a walk: the answer is then the best of the walks that are sought, or that there is none.
pub turn-best : (c : Conditions) (request : Request) (kept : List Step) (time : ℕ) (found : Found) → (0 < length kept → IsFeasibleWalk c kept)
    → AnswersTurn c request kept time found → IsBestSought c request kept time found
turn-best c Filed kept time found walk answers = absurd answers
turn-best c (Arrival from to asked hold) [] time (Route steps labels) walk answers = answers.0
turn-best c (Arrival from to asked hold) [] time (NoRoute labels) walk answers = answers.0
turn-best c (Arrival from to asked hold) (s ∷ kept) time (Route steps labels) walk answers =
    again-best c (s ∷ kept) time to (walk (omega arith)) (Arrival from to asked hold) (Route steps labels) answers
turn-best c (Arrival from to asked hold) (s ∷ kept) time (NoRoute labels) walk answers =
    again-best c (s ∷ kept) time to (walk (omega arith)) (Arrival from to asked hold) (NoRoute labels) answers
turn-best c (Departure from to asked queue) kept time (Route steps labels) walk answers =
    record { one = (answers.1.0.one, answers.0); latest = λ others sought. answers.1.0.latest others sought.0 }
turn-best c (Departure from to asked queue) kept time (NoRoute labels) walk answers = λ steps sought. omega (arith, answers.0 steps sought.0, sought.1)

-- A walk that is sought is a walk.
frozen-walk : (c : Conditions) (old : List Step) (time : ℕ) (target : Node) (from : Node) (asked hold : ℕ) (begun : Option Step) (steps : List Step)
    → MatchOption begun
    (IsRoute c (LeavesNodeWithin (layout_of c.airport) from (max asked time) (asked + hold)) (ReachesNode (layout_of c.airport) target) steps)
    (λ begun. IsResumed c (steps_done time old) begun time target steps)
    → IsFeasibleWalk c steps
frozen-walk c old time target from asked hold None steps route = route.walk
frozen-walk c old time target from asked hold (Some begun) steps resumed = resumed.walk

pub sought-walk : (c : Conditions) (request : Request) (kept : List Step) (time : ℕ) (steps : List Step) → IsWalkSought c request kept time steps → IsFeasibleWalk c steps
sought-walk c Filed kept time steps sought = absurd sought
sought-walk c (Arrival from to asked hold) kept time steps sought = frozen-walk c kept time to from asked hold (step_begun time kept) steps sought
sought-walk c (Departure from to asked queue) kept time steps sought = sought.0.walk

-- ---- what is sought is what was asked for

AtFirst-back_changed : (P : Step → Type 0) (front : List Step) (s t : Step) (old new : List Step) → (P s → P t) → AtFirst P (front ++ s ∷ old) → AtFirst P (front ++ t ∷ new)
AtFirst-back_changed P [] s t old new change h = change h
AtFirst-back_changed P (f ∷ front) s t old new change h = h

back-AtLast : (P : Step → Type 0) (front : List Step) (t : Step) (back : List Step) → AtLast P (t ∷ back) → AtLast P (front ++ t ∷ back)
back-AtLast P [] t back h = h
back-AtLast P (f ∷ []) t back h = h
back-AtLast P (f ∷ g ∷ front) t back h = back-AtLast P (g ∷ front) t back h

-- Each walk that a flight under way may take is what it asked for, with the new node to reach, where its old steps begin as it asked.
pub frozen-meets_begin : (c : Conditions) (old : List Step) (time : ℕ) (target from to : Node) (asked hold : ℕ) (steps : List Step)
    → (0 < length old → AtFirst (LeavesNodeWithin (layout_of c.airport) from asked (asked + hold)) old)
    → IsFrozenWalk c old time target (Arrival from to asked hold) steps → Meets c (Arrival from target asked hold) steps
frozen-meets_begin c old time target from to asked hold steps met frozen = go (step_begun time old) refl frozen where
  Begins : Step → Type 0
  Begins = LeavesNodeWithin (layout_of c.airport) from asked (asked + hold)

  Ends : Step → Type 0
  Ends = ReachesNode (layout_of c.airport) target

  first : (steps : List Step) → AtFirst (LeavesNodeWithin (layout_of c.airport) from (max asked time) (asked + hold)) steps → AtFirst Begins steps
  first [] h = h
  first (s ∷ steps) h = record { leaves = h.leaves; not_before = omega (arith, h.not_before); not_after = h.not_after }

  same_first : (s t : Step) → t.arc ≡ s.arc → t.enter ≡ s.enter → Begins s → Begins t
  same_first s t arc enter h = record { leaves = rw arc h.leaves; not_before = rw enter h.not_before; not_after = rw enter h.not_after }

  some : (old : List Step) (begun : Step) → step_begun time old ≡ Some begun → 0 < length old
  some [] begun e = absurd (none-some begun e)
  some (s ∷ old) begun e = omega arith

  go : (begun : Option Step) → step_begun time old ≡ begun
      → MatchOption begun
      (IsRoute c (LeavesNodeWithin (layout_of c.airport) from (max asked time) (asked + hold)) (ReachesNode (layout_of c.airport) target) steps)
      (λ begun. IsResumed c (steps_done time old) begun time target steps)
      → IsRoute c Begins Ends steps
  go None e route = record { walk = route.walk; begins = first steps route.begins; ends = route.ends }
  go (Some begun) e resumed = on resumed.rest resumed.joined resumed.begins resumed.ends where
    on : (rest : List Step) → steps ≡ steps_done time old ++ rest → AtFirst (Resumes begun time) rest → AtLast Ends rest → IsRoute c Begins Ends steps
    on [] joined begins ends = absurd begins
    on (t ∷ rest) joined begins ends =
        let parts = begun-parts time old begun e in
        record {
          walk = resumed.walk;
          begins = subst (AtFirst Begins) (sym joined)
              (AtFirst-back_changed Begins (steps_done time old) begun t parts.0 rest (same_first begun t begins.arc begins.enter) (subst (AtFirst Begins) parts.1 (met (some old begun e))));
          ends = subst (AtLast Ends) (sym joined) (back-AtLast Ends (steps_done time old) t rest ends);
        }

-- the steps begin as an arrival asked
abbrev pub BeginsAsAsked : Conditions → Request → List Step → Type 0
BeginsAsAsked c (Arrival from to asked hold) steps = AtFirst (LeavesNodeWithin (layout_of c.airport) from asked (asked + hold)) steps
BeginsAsAsked c request steps = Unit

-- What is routed is what the flight then asks for.
pub routed-meets : (c : Conditions) (request : Request) (kept : List Step) (time : ℕ) (steps : List Step) → (0 < length kept → BeginsAsAsked c request kept)
    → IsWalkSought c (request_sought request kept) kept time steps → Meets c (request_routed request kept) steps
routed-meets c Filed kept time steps begins sought = absurd sought
routed-meets c (Arrival from to asked hold) kept time steps begins sought = frozen-meets_begin c kept time to from to asked hold steps begins sought
routed-meets c (Departure from to asked queue) [] time steps begins sought = sought.0
routed-meets c (Departure from to asked queue) (s ∷ kept) time steps begins sought = sought-walk c (Arrival from to asked queue) (s ∷ kept) time steps sought

-- ---- how many there are

module _ {X Y : Type 0} (name_x : X → List ℕ) (name_y : Y → List ℕ) where
  -- each of the one list has its name in the other
  abbrev AreNamedIn : List X → List Y → Type 0
  AreNamedIn xs ys = (x : X) → Contains xs x → (y : Y) × Contains ys y × (name_y y ≡ name_x x)

  module _ (x : X) (xs : List X) (y : Y) (ys : List Y)
      (a : AllPairs (λ a b. IsTrue (name_precedes (name_x a) (name_x b))) (x ∷ xs)) (b : AllPairs (λ a b. IsTrue (name_precedes (name_y a) (name_y b))) (y ∷ ys))
      (there : AreNamedIn (x ∷ xs) (y ∷ ys)) where
    before : (z : X) → Contains xs z → IsTrue (name_precedes (name_x x) (name_x z))
    before z h = All-contains (λ z. IsTrue (name_precedes (name_x x) (name_x z))) xs z (AllPairs-first (λ a b. IsTrue (name_precedes (name_x a) (name_x b))) x xs a) h

    y-before : (z : Y) → Contains ys z → IsTrue (name_precedes (name_y y) (name_y z))
    y-before z h = All-contains (λ z. IsTrue (name_precedes (name_y y) (name_y z))) ys z (AllPairs-first (λ a b. IsTrue (name_precedes (name_y a) (name_y b))) y ys b) h

    -- where x has the name of y, the rest of the one has its names in the rest of the other
    rest-named : name_y y ≡ name_x x → AreNamedIn xs ys
    rest-named e z h =
        let found = there z (Contains-rest x z xs h) in
        elim (Contains-cons_cases y found.0 ys found.1) [
          | inl here ↦
              let same : name_x x ≡ name_x z = sym e ∙ ap name_y here ∙ found.2 in
              absurd (both_ways _ (name_precedes-not_itself (name_x z)) (subst (λ n. IsTrue (name_precedes n (name_x z))) same (before z h)))
          | inr later ↦ (found.0, later, found.2)
        ]

    -- and where it has that of a later one, so have all
    all-named : (w : Y) → Contains ys w → name_y w ≡ name_x x → AreNamedIn (x ∷ xs) ys
    all-named w w_there e z h =
        let found = there z h in
        elim (Contains-cons_cases y found.0 ys found.1) [
          | inr later ↦ (found.0, later, found.2)
          | inl here ↦ elim (Contains-cons_cases x z xs h) [
            | inl first ↦ (w, w_there, e ∙ ap name_x first)
            | inr after ↦
                let yz : name_y y ≡ name_x z = ap name_y here ∙ found.2 in
                let xy : IsTrue (name_precedes (name_x x) (name_y y)) = subst (λ n. IsTrue (name_precedes (name_x x) n)) (sym yz) (before z after) in
                let yx : IsTrue (name_precedes (name_y y) (name_x x)) = subst (λ n. IsTrue (name_precedes (name_y y) n)) e (y-before w w_there) in
                absurd (both_ways _ (name_precedes-one_way (name_x x) (name_y y) xy) yx)
          ]
        ]

    either-named : AreNamedIn xs ys ⊎ AreNamedIn (x ∷ xs) ys
    either-named =
        let found = there x (Contains-first x xs) in
        elim (Contains-cons_cases y found.0 ys found.1) [
          | inl here ↦ inl (rest-named (ap name_y here ∙ found.2))
          | inr later ↦ inr (all-named found.0 later found.2)
        ]

  -- A list by rising names, each the name of one of another such list, is no longer than that.
  pub fewer-named : (xs : List X) (ys : List Y) → AllPairs (λ a b. IsTrue (name_precedes (name_x a) (name_x b))) xs → AllPairs (λ a b. IsTrue (name_precedes (name_y a) (name_y b))) ys
      → AreNamedIn xs ys → length xs ≤ length ys
  fewer-named [] ys a b there = omega arith
  fewer-named (x ∷ xs) [] a b there = absurd (omega (arith, (there x (Contains-first x xs)).1.1))
  fewer-named (x ∷ xs) (y ∷ ys) a b there =
      elim (either-named x xs y ys a b there) [
        | inl rest ↦ omega (arith, fewer-named xs ys (AllPairs-rest (λ a b. IsTrue (name_precedes (name_x a) (name_x b))) x xs a) (AllPairs-rest (λ a b. IsTrue (name_precedes (name_y a) (name_y b))) y ys b) rest)
        | inr later ↦ omega (arith, fewer-named (x ∷ xs) ys a (AllPairs-rest (λ a b. IsTrue (name_precedes (name_y a) (name_y b))) y ys b) later)
      ]

-- ---- lists with one more

pub put_in-there : {X : Type 0} (name_of : X → List ℕ) (x : X) (xs : List X) → Contains (put_in name_of x xs) x
put_in-there name_of x [] = Contains-first x []
put_in-there name_of x (y ∷ ys) =
    cond_both (name_precedes (name_of x) (name_of y)) (x ∷ y ∷ ys) (y ∷ put_in name_of x ys) (λ zs. Contains zs x)
    (λ _. Contains-first x (y ∷ ys)) (λ _. Contains-rest y x (put_in name_of x ys) (put_in-there name_of x ys))

pub put_in-stays : {X : Type 0} (name_of : X → List ℕ) (x z : X) (xs : List X) → Contains xs z → Contains (put_in name_of x xs) z
put_in-stays name_of x z [] h = absurd (omega (arith, h.1))
put_in-stays name_of x z (y ∷ ys) h =
    cond_both (name_precedes (name_of x) (name_of y)) (x ∷ y ∷ ys) (y ∷ put_in name_of x ys) (λ zs. Contains zs z)
    (λ _. Contains-rest x z (y ∷ ys) h)
    (λ _. elim (Contains-cons_cases y z ys h) [
      | inl e ↦ subst (Contains (y ∷ put_in name_of x ys)) e (Contains-first y (put_in name_of x ys))
      | inr later ↦ Contains-rest y z (put_in name_of x ys) (put_in-stays name_of x z ys later)
    ])

-- ---- another route

-- A feasible state stays feasible where a flight gets another walk that is feasible among the others.
pub IsFeasibleState-with_route : (airport : Airport) (x : Flight) (state : State) (request : Request) (steps : List Step) → IsFeasibleState airport state → Contains state.flights x
    → IsFeasibleWalk (conditions_of airport state x) steps → IsFeasibleState airport (with_route x request steps state)
IsFeasibleState-with_route airport x state request steps feasible there walk =
    IsFeasibleState-with_flight airport (record x { request = request; steps = steps }) (without x.name state) (IsFeasibleState-without airport x.name state feasible)
    (omega (
      arith,
      feasible.few,
      left_out-fewer (λ (f : Flight). f.name) x state.flights there,
      length-filter (λ (p : Party). not (bytes_eq p.name x.name)) state.parties,
      count_by-le-length (λ (p : Party). not (bytes_eq p.name x.name)) state.parties,
    ))
    (or_from _ _ (none_left (λ (p : Party). p.name) x.name state.parties) (none_left (λ (f : Flight). f.name) x.name state.flights)) walk

-- ---- amid the turns

kept-begins : (P : Step → Type 0) → ((s t : Step) → t.arc ≡ s.arc → t.enter ≡ s.enter → P s → P t) → (time : ℕ) (leave : Step → ℕ) (steps : List Step) → AtFirst P steps
    → 0 < length (kept_steps time leave steps) → AtFirst P (kept_steps time leave steps)
kept-begins P change time leave steps first some = go (step_begun time steps) refl some where
  go : (o : Option Step) → step_begun time steps ≡ o
      → 0 < length (option_map_or (λ begun. steps_done time steps ++ record begun { leave = leave begun } ∷ []) o [])
      → AtFirst P (option_map_or (λ begun. steps_done time steps ++ record begun { leave = leave begun } ∷ []) o [])
  go None e none = absurd (omega (arith, none))
  go (Some begun) e _ =
      let parts = begun-parts time steps begun e in
      AtFirst-back_changed P (steps_done time steps) begun (record begun { leave = leave begun }) parts.0 [] (change begun (record begun { leave = leave begun }) refl refl)
      (subst (AtFirst P) parts.1 first)

pub best-one : (request : Request) (IsOne : List Step → Type 0) (steps : List Step) → IsBestFor request IsOne steps → IsOne steps
best-one Filed IsOne steps best = absurd best
best-one (Arrival from to asked hold) IsOne steps best = best.one
best-one (Departure from to asked queue) IsOne steps best = best.one

pub Meets-walk : (c : Conditions) (other : Segment → ℕ → Bool) (request : Request) (steps : List Step) → Meets c request steps → IsFeasibleWalk (record c { free = other }) steps
    → Meets (record c { free = other }) request steps
Meets-walk c other Filed steps met walk = walk
Meets-walk c other (Arrival from to time hold) steps met walk = record { walk = walk; begins = met.begins; ends = met.ends }
Meets-walk c other (Departure from to time queue) steps met walk = record { walk = walk; begins = met.begins; ends = met.ends }

module _ (airport : Airport) (state : State) (delay : Delay) where
  -- A state that is feasible, while holders of some names wait for their turns: those of them that are in force are on the steps
  -- that they kept, and all other flights are as they ask.
  pub record IsAmid (now : State) (names : List (List ℕ)) : Type 0 where
    pub feasible : IsFeasibleState airport now
    pub parties : (p : Party) → Contains now.parties p → Contains state.parties p
    pub flights : (y : Flight) → Contains now.flights y → (x : Flight) × Contains state.flights x × (x.name ≡ y.name)
    pub waiting : (x : Flight) → Contains state.flights x → Contains names x.name
        → (0 < length (steps_kept airport delay x) → Contains now.flights (record x { steps = steps_kept airport delay x }))
        × (length (steps_kept airport delay x) ≡ 0 → (y : Flight) → Contains now.flights y → y.name ≡ x.name → ⊥)
    pub met : (y : Flight) → Contains now.flights y → Contains names y.name ⊎ Meets (conditions_of airport now y) y.request y.steps

  module _ (sound : IsSound airport state) (now : State) (name : List ℕ) (names : List (List ℕ)) (amid : IsAmid now (name ∷ names))
      (once : All (λ n. IsFalse (bytes_eq n name)) names) (x : Flight) (there : Contains state.flights x) (named_so : x.name ≡ name) where
    abbrev kept : List Step
    kept = steps_kept airport delay x

    abbrev c : Conditions
    c = conditions_of airport now x

    -- what a flight that has kept steps is on is a walk
    pub kept-walk : 0 < length kept → IsFeasibleWalk c kept
    kept-walk some =
        All-contains (λ f. IsFeasibleWalk (conditions_of airport now f) f.steps) now.flights (record x { steps = kept }) amid.feasible.walks
        ((amid.waiting x there (subst (Contains (name ∷ names)) (sym named_so) (Contains-first name names))).0 some)

    -- without it there is room for one more
    pub others-few : holder_count (without x.name now) < 4096
    others-few = omega (
      arith,
      sound.feasible.few,
      left_out-fewer (λ (f : Flight). f.name) x state.flights there,
      fewer-named (λ (f : Flight). f.name) (λ (f : Flight). f.name) (without x.name now).flights (without x.name state).flights
          (AllPairs-filter (λ (f g : Flight). IsTrue (name_precedes f.name g.name)) (λ (f : Flight). not (bytes_eq f.name x.name)) now.flights amid.feasible.ordered)
          (AllPairs-filter (λ (f g : Flight). IsTrue (name_precedes f.name g.name)) (λ (f : Flight). not (bytes_eq f.name x.name)) state.flights sound.feasible.ordered)
          (λ y h.
          let old = filter-Contains (λ (f : Flight). not (bytes_eq f.name x.name)) now.flights y h in
          let before = amid.flights y old.0 in
          (before.0, Contains-filter (λ (f : Flight). not (bytes_eq f.name x.name)) state.flights before.0 before.1 (subst (λ n. IsTrue (not (bytes_eq n x.name))) (sym before.2) old.1), before.2)),
      fewer-named (λ (p : Party). p.name) (λ (p : Party). p.name) (without x.name now).parties state.parties
          (AllPairs-filter (λ (p q : Party). IsTrue (name_precedes p.name q.name)) (λ (p : Party). not (bytes_eq p.name x.name)) now.parties amid.feasible.parties_ordered)
          sound.feasible.parties_ordered
          (λ p h. (p, amid.parties p (filter-Contains (λ (p : Party). not (bytes_eq p.name x.name)) now.parties p h).0, refl)),
    )

    pub others-none : IsFalse (has_holder x.name (without x.name now))
    others-none = or_from _ _ (none_left (λ (p : Party). p.name) x.name now.parties) (none_left (λ (f : Flight). f.name) x.name now.flights)

    waits-other : (y : Flight) → Contains names y.name → IsFalse (bytes_eq y.name x.name)
    waits-other y h = subst (λ n. IsFalse (bytes_eq y.name n)) (sym named_so) (All-contains (λ n. IsFalse (bytes_eq n name)) names y.name once h)

    -- one that is not this flight's waits for one of the other names, or is as it asks
    other-met : (next : State) → IsFeasibleState airport next → (y : Flight) → Contains now.flights y → Contains next.flights y → IsFalse (bytes_eq y.name x.name)
        → Contains names y.name ⊎ Meets (conditions_of airport next y) y.request y.steps
    other-met next feasible y old new differ = elim (amid.met y old) [
      | inl waits ↦ elim (Contains-cons_cases name y.name names waits) [
        | inl e ↦ absurd (both_ways _ differ ((bytes_decides y.name x.name).1 (sym e ∙ sym named_so)))
        | inr later ↦ inl later
      ]
      | inr met ↦ inr (Meets-walk (conditions_of airport now y) (conditions_of airport next y).free y.request y.steps met
          (All-contains (λ f. IsFeasibleWalk (conditions_of airport next f) f.steps) next.flights y feasible.walks new))
    ]

    pub out-amid : IsAmid (without x.name now) names
    out-amid = record {
      feasible = IsFeasibleState-without airport x.name now amid.feasible;
      parties = λ p h. amid.parties p (filter-Contains (λ (p : Party). not (bytes_eq p.name x.name)) now.parties p h).0;
      flights = λ y h. amid.flights y (filter-Contains (λ (f : Flight). not (bytes_eq f.name x.name)) now.flights y h).0;
      waiting = λ z z_there h.
          let before = amid.waiting z z_there (Contains-rest name z.name names h) in (
            λ some. Contains-filter (λ (f : Flight). not (bytes_eq f.name x.name)) now.flights (record z { steps = steps_kept airport delay z }) (before.0 some) (not_from_false _ (waits-other z h)),
            λ none y y_there e. before.1 none y (filter-Contains (λ (f : Flight). not (bytes_eq f.name x.name)) now.flights y y_there).0 e,
          );
      met = λ y h.
          let old = filter-Contains (λ (f : Flight). not (bytes_eq f.name x.name)) now.flights y h in
          other-met (without x.name now) (IsFeasibleState-without airport x.name now amid.feasible) y old.0 h (not-true _ old.1);
    }

    module _ (request : Request) (steps : List Step) (met : Meets c request steps) where
      abbrev z : Flight
      z = record x { request = request; steps = steps }

      pub route-feasible : IsFeasibleState airport (with_route x request steps now)
      route-feasible =
          IsFeasibleState-with_flight airport z (without x.name now) (IsFeasibleState-without airport x.name now amid.feasible) others-few others-none
          (Meets-IsFeasibleWalk c request steps met)

      pub route-amid : IsAmid (with_route x request steps now) names
      route-amid = record {
        feasible = route-feasible;
        parties = out-amid.parties;
        flights = λ y h. elim (put_in-cases (λ (f : Flight). f.name) z (without x.name now).flights y h) [
          | inl e ↦ (x, there, ap (λ (f : Flight). f.name) e)
          | inr old ↦ out-amid.flights y old
        ];
        waiting = λ w w_there h.
            let before = out-amid.waiting w w_there h in (
              λ some. put_in-stays (λ (f : Flight). f.name) z (record w { steps = steps_kept airport delay w }) (without x.name now).flights (before.0 some),
              λ none y y_there e. elim (put_in-cases (λ (f : Flight). f.name) z (without x.name now).flights y y_there) [
                | inl same ↦ both_ways _ (waits-other w h) ((bytes_decides w.name x.name).1 (sym e ∙ sym (ap (λ (f : Flight). f.name) same)))
                | inr old ↦ before.1 none y old e
              ],
            );
        met = λ y h. elim (put_in-cases (λ (f : Flight). f.name) z (without x.name now).flights y h) [
          | inl e ↦ inr (subst (λ (f : Flight). Meets (conditions_of airport (with_route x request steps now) f) f.request f.steps) e
              (Meets-walk c (conditions_of airport (with_route x request steps now) z).free request steps met
              (All-contains (λ f. IsFeasibleWalk (conditions_of airport (with_route x request steps now) f) f.steps) (with_route x request steps now).flights z route-feasible.walks
              (put_in-there (λ (f : Flight). f.name) z (without x.name now).flights))))
          | inr left ↦
              let old = filter-Contains (λ (f : Flight). not (bytes_eq f.name x.name)) now.flights y left in
              other-met (with_route x request steps now) route-feasible y old.0 h (not-true _ old.1)
        ];
      }

    -- what a flight keeps begins as it asked
    kept-asked : 0 < length kept → BeginsAsAsked c x.request kept
    kept-asked some = go x.request (All-contains (λ f. Meets (conditions_of airport state f) f.request f.steps) state.flights x sound.requests there) where
      same_first : (from : Node) (earliest latest : ℕ) (s t : Step) → t.arc ≡ s.arc → t.enter ≡ s.enter → LeavesNodeWithin (layout_of airport) from earliest latest s
          → LeavesNodeWithin (layout_of airport) from earliest latest t
      same_first from earliest latest s t arc enter h = record { leaves = rw arc h.leaves; not_before = rw enter h.not_before; not_after = rw enter h.not_after }

      either : (P : Step → Type 0) → ((s t : Step) → t.arc ≡ s.arc → t.enter ≡ s.enter → P s → P t) → AtFirst P x.steps → (late : Bool) → is_late delay x ≡ late
          → AtFirst P (steps_kept airport delay x)
      either P change first true e =
          let same : steps_kept airport delay x ≡ kept_steps delay.time (λ _. delay.until) x.steps = rw e refl in
          subst (AtFirst P) (sym same) (kept-begins P change delay.time (λ _. delay.until) x.steps first (subst (λ ss. 0 < length ss) same some))
      either P change first false e =
          let same : steps_kept airport delay x ≡ kept_steps delay.time (soonest_leave airport x.class delay.time) x.steps = rw e refl in
          subst (AtFirst P) (sym same) (kept-begins P change delay.time (soonest_leave airport x.class delay.time) x.steps first (subst (λ ss. 0 < length ss) same some))

      go : (request : Request) → Meets (conditions_of airport state x) request x.steps → BeginsAsAsked c request kept
      go Filed met = tt
      go (Departure from to asked queue) met = tt
      go (Arrival from to asked hold) met =
          either (LeavesNodeWithin (layout_of airport) from asked (asked + hold)) (same_first from asked (asked + hold)) met.begins (is_late delay x) refl

    module _ (found : Found) (answers : AnswersTurn c (request_sought x.request kept) kept (time_sought delay x) found) where
      -- the answer is the best of the walks that are sought
      pub answer-best : IsBestSought c (request_sought x.request kept) kept (time_sought delay x) found
      answer-best = turn-best c (request_sought x.request kept) kept (time_sought delay x) found kept-walk answers

    -- A route that is answered is what the flight then asks for.
    pub answer-meets : (steps : List Step) (labels : List LabelRow) → AnswersTurn c (request_sought x.request kept) kept (time_sought delay x) (Route steps labels)
        → Meets c (request_routed x.request kept) steps
    answer-meets steps labels answers =
        routed-meets c x.request kept (time_sought delay x) steps kept-asked
        (best-one (request_sought x.request kept) (IsWalkSought c (request_sought x.request kept) kept (time_sought delay x)) steps (answer-best (Route steps labels) answers))

    pub flight-amid : (found : Found) (next : State) → AnswersTurn c (request_sought x.request kept) kept (time_sought delay x) found → next ≡ after_turn now x kept found → IsAmid next names
    flight-amid (Route steps labels) next answers e =
        subst (λ s. IsAmid s names) (sym e) (route-amid (request_routed x.request kept) steps (answer-meets steps labels answers))
    flight-amid (NoRoute labels) next answers e = none kept refl e where
      none : (ks : List Step) → kept ≡ ks → next ≡ after_turn now x ks (NoRoute labels) → IsAmid next names
      none [] is e = subst (λ s. IsAmid s names) (sym e) out-amid
      none (s ∷ ks) is e =
          subst (λ s. IsAmid s names) (sym e) (route-amid Filed (s ∷ ks) (subst (IsFeasibleWalk c) is (kept-walk (subst (λ us. 0 < length us) (sym is) (omega arith)))))

    -- a filed flight is dropped, and was on a walk
    pub filed-amid : x.request ≡ Filed → IsAmid now names
    filed-amid filed = record {
      feasible = amid.feasible;
      parties = amid.parties;
      flights = amid.flights;
      waiting = λ w w_there h. amid.waiting w w_there (Contains-rest name w.name names h);
      met = λ y h. elim (amid.met y h) [
        | inr met ↦ inr met
        | inl waits ↦ elim (Contains-cons_cases name y.name names waits) [
          | inr later ↦ inl later
          | inl e ↦ inr (own y h (sym e ∙ sym named_so) (length kept) refl)
        ]
      ];
    } where
      own : (y : Flight) → Contains now.flights y → y.name ≡ x.name → (n : ℕ) → length kept ≡ n → Meets (conditions_of airport now y) y.request y.steps
      own y h e zero none =
          absurd ((amid.waiting x there (subst (Contains (name ∷ names)) (sym named_so) (Contains-first name names))).1 none y h e)
      own y h e (suc n) some =
          let here : Contains now.flights (record x { steps = kept }) =
          (amid.waiting x there (subst (Contains (name ∷ names)) (sym named_so) (Contains-first name names))).0 (omega (arith, some)) in
          let same : y ≡ record x { steps = kept } = named-once (λ (f : Flight). f.name) now.flights y (record x { steps = kept }) amid.feasible.ordered h here e in
          subst (λ r. Meets (conditions_of airport now y) r y.steps) (sym (ap (λ (f : Flight). f.request) same ∙ filed))
          (All-contains (λ f. IsFeasibleWalk (conditions_of airport now f) f.steps) now.flights y amid.feasible.walks h)
