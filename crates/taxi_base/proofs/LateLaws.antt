-- Those in the way of a late flight are one list, each name once, and after their turns the state is sound.
use Rattle.std.proofs.Common.{◌≡◌, ℕ, suc, zero, not, ◌||◌, ◌&&◌, eqb, ◌+◌, ◌-◌, ◌<◌, ◌≤◌, List, [], ◌∷◌, length, map, get_or, Bool, IsTrue, IsFalse, Option, Some, None, refl, sym, ◌∙◌, ap, subst, arith, inl, inr}
use Rattle.std.specs.Prelude.{Contains, All, AllPairs, MatchOption, bytes_eq, nat_lt}
use Rattle.std.specs.List.{list_any}
use Rattle.std.proofs.lemmas.Bool.{cases_Bool, cases_lt, and_parts, and_from, or_cases, or_left, or_right, false_from_ne_true, both_ways}
use Rattle.std.proofs.lemmas.Bool.Decides.{nat_tests}
use Rattle.std.proofs.lemmas.Option.{none-some}
use Rattle.std.proofs.lemmas.List.Elements.{All-weaker, All-contains, All-contains_itself, All-map, Contains-get_or}
use Rattle.std.proofs.lemmas.List.Kept.{AllPairs-cons}
use Rattle.std.specs.Cmp.Lexicographic.{bytes_decides}
use Rattle.taxi_base.specs.declared.answers.Flight.{Flight}
use Rattle.taxi_base.specs.declared.answers.Party.{Party}
use Rattle.taxi_base.specs.declared.answers.Found.{Found}
use Rattle.taxi_base.specs.Airport.{Airport, conflict}
use Rattle.taxi_base.specs.Windows.{Hold, span_has, clash, blocks}
use Rattle.taxi_base.specs.Walks.{IsFeasibleWalk, Meets}
use Rattle.taxi_base.specs.State.{State, name_precedes, flight_named, flight_holds, party_hold, conditions_of, IsFeasibleState, IsSound}
use Rattle.taxi_base.specs.Late.{Delay, Meeting, IsDelay, prolonged_hold, IsFirstCommon, IsInTheWay, meeting_precedes, AreInTheWay, is_late, steps_kept, party_meets, flight_meets, flight_at_once, base_state, IsTurnOfFlight, IsTurnOf, AreTurns, IsRepaired}
use Rattle.taxi_base.proofs.ListLaws.{Contains-first, Contains-rest, Contains-cons_cases, Contains-map, map-Contains, Contains-flat_map, filter-Contains, AllPairs-first, AllPairs-rest, AllPairs-map, list_any-true, list_any-member, ordered_same}
use Rattle.taxi_base.proofs.NameLaws.{name_precedes-one_way}
use Rattle.taxi_base.proofs.HoldLaws.{clash-true, clash-from}
use Rattle.taxi_base.proofs.WindowLaws.{span_has-from, span_has-true}
use Rattle.taxi_base.proofs.OtherHolds.{named-there, there-named, named-once}
use Rattle.taxi_base.proofs.BaseLaws.{IsAtOnce, on_steps-there, late-there, base-feasible, from-before}
use Rattle.taxi_base.proofs.TurnLaws.{IsAmid, Meets-walk, flight-amid, filed-amid}

-- ---- the first common second

-- the first number from one on that passes a test, where one does
least : (p : ℕ → Bool) (from n : ℕ) → IsTrue (p (from + n)) → (t : ℕ) × (from ≤ t) × (t ≤ from + n) × IsTrue (p t) × ((u : ℕ) → from ≤ u → u < t → IsFalse (p u))
least p from zero h =
    let e : from + 0 ≡ from = omega arith in (from, omega arith, omega arith, subst (λ n. IsTrue (p n)) e h, λ u low high. absurd (omega (arith, low, high)))
least p from (suc n) h =
    elim (cases_Bool (p from)) [
      | inl here ↦ (from, omega arith, omega arith, here, λ u low high. absurd (omega (arith, low, high)))
      | inr fails ↦
          let e : from + suc n ≡ (from + 1) + n = omega arith in
          let rest = least p (from + 1) n (subst (λ n. IsTrue (p n)) e h) in (
            rest.0,
            omega (arith, rest.1),
            omega (arith, rest.2),
            rest.3,
            λ u low high. elim (cases_lt from u) [
              | inl after ↦ rest.4 u (omega arith) high
              | inr by ↦ let same : u ≡ from = omega (arith, low, by) in subst (λ n. IsFalse (p n)) (sym same) fails
            ],
          )
    ]

module _ (airport : Airport) (hold : Hold) (holds : List Hold) where
  -- Holds that meet a hold have a first common second with it.
  pub first-common : IsTrue (list_any (clash airport.conflicts hold) holds) → (second : ℕ) × IsFirstCommon airport hold holds second
  first-common meets =
      let found = list_any-true (clash airport.conflicts hold) holds meets in
      let parts = clash-true airport.conflicts hold found.0 found.2 in
      let inside = span_has-true hold.span parts.1.0 parts.1.1 in
      let here : IsTrue (list_any (blocks airport.conflicts hold.segment parts.1.0) holds) =
      list_any-member (blocks airport.conflicts hold.segment parts.1.0) holds found.0 found.1 (and_from (conflict airport.conflicts hold.segment found.0.segment) (span_has found.0.span parts.1.0) parts.0 parts.1.2) in
      let e : parts.1.0 ≡ hold.span.from + (parts.1.0 - hold.span.from) = omega (arith, inside.0) in
      let first = least (λ t. list_any (blocks airport.conflicts hold.segment t) holds) hold.span.from (parts.1.0 - hold.span.from)
      (subst (λ t. IsTrue (list_any (blocks airport.conflicts hold.segment t) holds)) e here) in
      (first.0, record { within = span_has-from hold.span first.0 first.1 (omega (arith, first.2, e, inside.1)); common = first.3; first = first.4 })

  -- And what has one meets it.
  pub common-meets : (second : ℕ) → IsFirstCommon airport hold holds second → IsTrue (list_any (clash airport.conflicts hold) holds)
  common-meets second common =
      let found = list_any-true (blocks airport.conflicts hold.segment second) holds common.common in
      let parts = and_parts (conflict airport.conflicts hold.segment found.0.segment) (span_has found.0.span second) found.2 in
      list_any-member (clash airport.conflicts hold) holds found.0 found.1 (clash-from airport.conflicts hold found.0 second parts.0 common.within parts.1)

  first-earlier : (s t : ℕ) → IsFirstCommon airport hold holds s → IsFirstCommon airport hold holds t → s < t → ⊥
  first-earlier s t a b lower = both_ways _ (b.first s (span_has-true hold.span s a.within).0 lower) a.common

  first-one : (s t : ℕ) → IsFirstCommon airport hold holds s → IsFirstCommon airport hold holds t → s ≡ t
  first-one s t a b = elim (cases_lt s t) [
    | inl lower ↦ absurd (first-earlier s t a b lower)
    | inr no_lower ↦ elim (cases_lt t s) [
      | inl higher ↦ absurd (first-earlier t s b a higher)
      | inr no_higher ↦ omega arith
    ]
  ]

-- ---- in order

meeting_precedes-one_way : (a b : Meeting) → IsTrue (meeting_precedes a b) → IsTrue (meeting_precedes b a) → ⊥
meeting_precedes-one_way a b h k =
    elim (or_cases (nat_lt a.second b.second) (eqb a.second b.second && name_precedes a.name b.name) h) [
      | inl low ↦ elim (or_cases (nat_lt b.second a.second) (eqb b.second a.second && name_precedes b.name a.name) k) [
        | inl high ↦ grind (arith, nat_tests)
        | inr same ↦ let parts = and_parts (eqb b.second a.second) (name_precedes b.name a.name) same in grind (arith, nat_tests, parts.0)
      ]
      | inr same ↦ let parts = and_parts (eqb a.second b.second) (name_precedes a.name b.name) same in
          elim (or_cases (nat_lt b.second a.second) (eqb b.second a.second && name_precedes b.name a.name) k) [
            | inl high ↦ grind (arith, nat_tests, parts.0)
            | inr too ↦ both_ways _ (name_precedes-one_way a.name b.name parts.1) (and_parts (eqb b.second a.second) (name_precedes b.name a.name) too).1
          ]
    ]

-- Those in the way are one list.
pub AreInTheWay-same : (airport : Airport) (state : State) (delay : Delay) (meetings others : List Meeting)
    → AreInTheWay airport state delay meetings → AreInTheWay airport state delay others → meetings ≡ others
AreInTheWay-same airport state delay meetings others a b =
    ordered_same meeting_precedes meeting_precedes-one_way meetings others a.ordered b.ordered (λ m h. (b.whole m).1 ((a.whole m).0 h)) (λ m h. (a.whole m).1 ((b.whole m).0 h))

module _ (airport : Airport) (state : State) (delay : Delay) (feasible : IsFeasibleState airport state) (is : IsDelay airport state delay) where
  kinds-differ : (p : Party) (f : Flight) → Contains state.parties p → Contains state.flights f → p.name ≡ f.name → ⊥
  kinds-differ p f p_there f_there e =
      both_ways _ (All-contains (λ (f : Flight). IsFalse (bytes_eq f.name p.name)) state.flights f (All-contains (λ q. All (λ (f : Flight). IsFalse (bytes_eq f.name q.name)) state.flights) state.parties p feasible.differ p_there) f_there)
      ((bytes_decides f.name p.name).1 (sym e))

  -- one name is in the way from one second on
  second-one : (a b : Meeting) → IsInTheWay airport state delay a → IsInTheWay airport state delay b → a.name ≡ b.name → a.second ≡ b.second
  second-one a b (inl p) (inl q) e =
      let same : p.0 ≡ q.0 = named-once (λ (r : Party). r.name) state.parties p.0 q.0 feasible.parties_ordered p.1 q.1 (p.2 ∙ e ∙ sym q.2) in
      first-one airport (prolonged_hold airport delay) (party_hold q.0 ∷ []) a.second b.second
      (subst (λ r. IsFirstCommon airport (prolonged_hold airport delay) (party_hold r ∷ []) a.second) same p.3) q.3
  second-one a b (inr f) (inr g) e =
      let same : f.0 ≡ g.0 = named-once (λ (h : Flight). h.name) state.flights f.0 g.0 feasible.ordered f.1 g.1 (f.2 ∙ e ∙ sym g.2) in
      first-one airport (prolonged_hold airport delay) (flight_holds airport g.0) a.second b.second
      (subst (λ h. IsFirstCommon airport (prolonged_hold airport delay) (flight_holds airport h) a.second) same f.4) g.4
  second-one a b (inl p) (inr g) e = absurd (kinds-differ p.0 g.0 p.1 g.1 (p.2 ∙ e ∙ sym g.2))
  second-one a b (inr f) (inl q) e = absurd (kinds-differ q.0 f.0 q.1 f.1 (q.2 ∙ sym e ∙ sym f.2))

  -- the name of one in the way is not that of the late flight
  way-differs : (m : Meeting) → IsInTheWay airport state delay m → IsFalse (bytes_eq m.name delay.flight.name)
  way-differs m (inl p) = false_from_ne_true _ (λ same.
      kinds-differ p.0 delay.flight p.1 (late-there airport state delay feasible is) (p.2 ∙ (bytes_decides m.name delay.flight.name).0 same))
  way-differs m (inr f) = subst (λ n. IsFalse (bytes_eq n delay.flight.name)) f.2 f.3

  abbrev Differ : List ℕ → List ℕ → Type 0
  Differ a b = IsFalse (bytes_eq b a)

  module _ (meetings : List Meeting) (way : AreInTheWay airport state delay meetings) where
    abbrev in_turn : List (List ℕ)
    in_turn = delay.flight.name ∷ map (λ (m : Meeting). m.name) meetings

    in_way : (i : ℕ) (d : Meeting) → i < length meetings → IsInTheWay airport state delay (get_or meetings i d)
    in_way i d low = (way.whole (get_or meetings i d)).0 (Contains-get_or meetings i d low)

    -- None of them stands twice.
    pub meetings-once : AllPairs (λ a b. Differ a.name b.name) meetings
    meetings-once = λ i j d low high.
        let a : Meeting = get_or meetings i d in
        let b : Meeting = get_or meetings j d in
        false_from_ne_true _ (λ same.
        let e : a.name ≡ b.name = sym ((bytes_decides b.name a.name).0 same) in
        let second : a.second ≡ b.second = second-one a b (in_way i d (omega (arith, low, high))) (in_way j d high) e in
        let one : a ≡ b = (λ i. record { second = second i; name = e i }) in
        let itself : IsTrue (meeting_precedes b b) = subst (λ m. IsTrue (meeting_precedes m b)) one (way.ordered i j d low high) in
        meeting_precedes-one_way b b itself itself)

    -- And each name has one turn.
    pub names-once : AllPairs Differ in_turn
    names-once =
        AllPairs-cons Differ delay.flight.name (map (λ (m : Meeting). m.name) meetings)
        (All-map (Differ delay.flight.name) (λ (m : Meeting). m.name) meetings (λ k d low. way-differs (get_or meetings k d) (in_way k d low)))
        (AllPairs-map (λ (m : Meeting). m.name) Differ meetings meetings-once)

    -- a flight of one of the names is late or in the way
    pub moves-named : (x : Flight) → Contains state.flights x → Contains in_turn x.name → IsTrue (is_late delay x || flight_meets airport delay x)
    moves-named x there h = elim (Contains-cons_cases delay.flight.name x.name (map (λ (m : Meeting). m.name) meetings) h) [
      | inl e ↦ or_left _ _ ((bytes_decides x.name delay.flight.name).1 (sym e))
      | inr later ↦
          let m = map-Contains (λ (m : Meeting). m.name) meetings x.name later in
          or_right _ _ (go m.0 m.2 ((way.whole m.0).0 m.1))
    ] where
      go : (m : Meeting) → m.name ≡ x.name → IsInTheWay airport state delay m → IsTrue (flight_meets airport delay x)
      go m e (inl p) = absurd (kinds-differ p.0 x p.1 there (p.2 ∙ e))
      go m e (inr f) =
          let same : f.0 ≡ x = named-once (λ (g : Flight). g.name) state.flights f.0 x feasible.ordered f.1 there (f.2 ∙ e) in
          subst (λ g. IsTrue (flight_meets airport delay g)) same (common-meets airport (prolonged_hold airport delay) (flight_holds airport f.0) m.second f.4)

    -- a party of one of the names is in the way
    pub meets-named : (p : Party) → Contains state.parties p → Contains in_turn p.name → IsTrue (party_meets airport delay p)
    meets-named p there h = elim (Contains-cons_cases delay.flight.name p.name (map (λ (m : Meeting). m.name) meetings) h) [
      | inl e ↦ absurd (kinds-differ p delay.flight there (late-there airport state delay feasible is) (sym e))
      | inr later ↦
          let m = map-Contains (λ (m : Meeting). m.name) meetings p.name later in
          go m.0 m.2 ((way.whole m.0).0 m.1)
    ] where
      go : (m : Meeting) → m.name ≡ p.name → IsInTheWay airport state delay m → IsTrue (party_meets airport delay p)
      go m e (inr f) = absurd (kinds-differ p f.0 there f.1 (sym e ∙ sym f.2))
      go m e (inl q) =
          let same : q.0 ≡ p = named-once (λ (r : Party). r.name) state.parties q.0 p feasible.parties_ordered q.1 there (q.2 ∙ e) in
          elim (or_cases _ _ (subst (λ r. IsTrue (list_any (clash airport.conflicts (prolonged_hold airport delay)) (party_hold r ∷ []))) same
          (common-meets airport (prolonged_hold airport delay) (party_hold q.0 ∷ []) m.second q.3))) [
            | inl meets ↦ meets
            | inr none ↦ absurd (cc none)
          ]

    -- and a flight that is late or in the way is named
    named-moves : (x : Flight) → Contains state.flights x → IsTrue (is_late delay x || flight_meets airport delay x) → Contains in_turn x.name
    named-moves x there moves = elim (cases_Bool (is_late delay x)) [
      | inl late ↦ subst (Contains in_turn) (sym ((bytes_decides x.name delay.flight.name).0 late)) (Contains-first delay.flight.name (map (λ (m : Meeting). m.name) meetings))
      | inr other ↦
          let meets : IsTrue (flight_meets airport delay x) = elim (or_cases _ _ moves) [
            | inl late ↦ absurd (both_ways _ other late)
            | inr meets ↦ meets
          ] in
          let common = first-common airport (prolonged_hold airport delay) (flight_holds airport x) meets in
          Contains-rest delay.flight.name x.name (map (λ (m : Meeting). m.name) meetings)
          (Contains-map (λ (m : Meeting). m.name) meetings (record { second = common.0; name = x.name })
          ((way.whole (record { second = common.0; name = x.name })).1 (inr (x, there, refl, other, common.1))))
    ]

    module _ (sound : IsSound airport state) where
      -- Before the first turn all of them wait.
      pub base-amid : IsAmid airport state delay (base_state airport state delay) in_turn
      base-amid = record {
        feasible = base-feasible airport state delay feasible is;
        parties = λ p h. (filter-Contains (λ (p : Party). not (party_meets airport delay p)) state.parties p h).0;
        flights = λ y h. let before = from-before airport state delay feasible is y h in (before.0, before.1, sym (ap (λ (z : Flight). z.name) before.2.same));
        waiting = λ x there h.
            let moves = moves-named x there h in (
              λ some. Contains-flat_map (flight_at_once airport delay) state.flights x (record x { steps = steps_kept airport delay x }) there
                  (rw moves (on_steps-there x (steps_kept airport delay x) some)),
              λ none y y_there e.
                  let before = from-before airport state delay feasible is y y_there in
                  let same : before.0 ≡ x = named-once (λ (g : Flight). g.name) state.flights before.0 x feasible.ordered before.1 there (sym (ap (λ (z : Flight). z.name) before.2.same) ∙ e) in
                  out x moves none y (subst (λ z. IsAtOnce airport delay z y) same before.2),
            );
        met = λ y h. let before = from-before airport state delay feasible is y h in elim before.2.either [
          | inr moves ↦ inl (subst (Contains in_turn) (sym (ap (λ (z : Flight). z.name) before.2.same)) (named-moves before.0 before.1 moves.0))
          | inl stays ↦ inr (Meets-walk (conditions_of airport state y) (conditions_of airport (base_state airport state delay) y).free y.request y.steps
              (subst (λ z. Meets (conditions_of airport state z) z.request z.steps) (sym stays.2)
              (All-contains (λ z. Meets (conditions_of airport state z) z.request z.steps) state.flights before.0 sound.requests before.1))
              (All-contains (λ z. IsFeasibleWalk (conditions_of airport (base_state airport state delay) z) z.steps) (base_state airport state delay).flights y (base-feasible airport state delay feasible is).walks h))
        ];
      } where
        out : (x : Flight) → IsTrue (is_late delay x || flight_meets airport delay x) → length (steps_kept airport delay x) ≡ 0 → (y : Flight) → IsAtOnce airport delay x y → ⊥
        out x moves none y at_once = elim at_once.either [
          | inl stays ↦ elim (or_cases _ _ moves) [ inl late ↦ both_ways _ stays.0 late | inr meets ↦ both_ways _ stays.1 meets ]
          | inr kept ↦ omega (arith, none, kept.2)
        ]

-- ---- the turns

module _ (airport : Airport) (state : State) (delay : Delay) (sound : IsSound airport state) where
  -- A turn leaves the others waiting.
  pub turn-amid : (now : State) (name : List ℕ) (names : List (List ℕ)) (told : Option Found) (next : State) → IsAmid airport state delay now (name ∷ names)
      → All (λ n. IsFalse (bytes_eq n name)) names → IsTurnOf airport delay state name now told next → IsAmid airport state delay next names
  turn-amid now name names told next amid once turn = go (flight_named name state.flights) refl turn where
    go : (o : Option Flight) → flight_named name state.flights ≡ o → MatchOption o ((told ≡ None) × (next ≡ now)) (λ flight. IsTurnOfFlight airport delay flight now told next)
        → IsAmid airport state delay next names
    go None e h = subst (λ s. IsAmid airport state delay s names) (sym h.1) (record {
      feasible = amid.feasible;
      parties = amid.parties;
      flights = amid.flights;
      waiting = λ w w_there h. amid.waiting w w_there (Contains-rest name w.name names h);
      met = λ y y_there. elim (amid.met y y_there) [
        | inr met ↦ inr met
        | inl waits ↦ elim (Contains-cons_cases name y.name names waits) [
          | inr later ↦ inl later
          | inl same ↦
              let before = amid.flights y y_there in
              let found : flight_named name state.flights ≡ Some before.0 =
              subst (λ n. flight_named n state.flights ≡ Some before.0) (before.2 ∙ sym same) (there-named (λ (f : Flight). f.name) state.flights before.0 sound.feasible.ordered before.1) in
              absurd (none-some before.0 (sym e ∙ found))
        ]
      ];
    })
    go (Some x) e h =
        let there = named-there (λ (f : Flight). f.name) name state.flights x e in of_flight x there.0 there.1 told h
      where
        of_flight : (x : Flight) → Contains state.flights x → x.name ≡ name → (told : Option Found) → IsTurnOfFlight airport delay x now told next → IsAmid airport state delay next names
        of_flight x there same None h =
            subst (λ s. IsAmid airport state delay s names) (sym h.1) (filed-amid airport state delay sound now name names amid once x there same h.0)
        of_flight x there same (Some found) h = flight-amid airport state delay sound now name names amid once x there same found next h.0 h.1

  pub turns-amid : (names : List (List ℕ)) (now : State) (tells : List (Option Found)) (after : State) → IsAmid airport state delay now names → AllPairs (λ a b. IsFalse (bytes_eq b a)) names
      → AreTurns airport delay state names now tells after → IsAmid airport state delay after []
  turns-amid [] now [] after amid once turns = subst (λ s. IsAmid airport state delay s []) (sym turns) amid
  turns-amid [] now (told ∷ tells) after amid once turns = absurd turns
  turns-amid (name ∷ names) now [] after amid once turns = absurd turns
  turns-amid (name ∷ names) now (told ∷ tells) after amid once turns =
      turns-amid names turns.0 tells after
      (turn-amid now name names told turns.0 amid (AllPairs-first (λ a b. IsFalse (bytes_eq b a)) name names once) turns.1)
      (AllPairs-rest (λ a b. IsFalse (bytes_eq b a)) name names once) turns.2

  -- After all turns the state is sound.
  pub repaired-sound : (meetings : List Meeting) (tells : List (Option Found)) (after : State) → IsDelay airport state delay → IsRepaired airport state delay meetings tells after
      → IsSound airport after
  repaired-sound meetings tells after is repaired = record {
    feasible = amid.feasible;
    requests = All-weaker (Contains after.flights) (λ y. Meets (conditions_of airport after y) y.request y.steps)
        (λ y there. elim (amid.met y there) [ inl none ↦ absurd (omega (arith, none.1)) | inr met ↦ met ]) after.flights (All-contains_itself after.flights);
  } where
    amid : IsAmid airport state delay after []
    amid = turns-amid (delay.flight.name ∷ map (λ (m : Meeting). m.name) meetings) (base_state airport state delay) tells after
        (base-amid airport state delay sound.feasible is meetings repaired.in_the_way sound)
        (names-once airport state delay sound.feasible is meetings repaired.in_the_way) repaired.turns
