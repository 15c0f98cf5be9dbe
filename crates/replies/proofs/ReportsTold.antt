-- The reports that are told: their rows can be printed, and they are not too many.
use Rattle.std.proofs.Common.{◌≡◌, ◌∙◌, ℕ, ◌+◌, ◌*◌, ◌≤◌, nat_lt, List, [], ◌∷◌, ◌++◌, length, length-append, map, get_or, Some, inl, inr, IsTrue, sym, subst, arith}
use Rattle.std.specs.Prelude.{◌⊎◌, All, AllPairs, Contains, flat_map}
use Rattle.std.proofs.lemmas.Bool.{cases_lt, or_cases, and_parts, both_ways, ltb-true}
use Rattle.std.proofs.lemmas.List.{length-map, get_or_past}
use Rattle.std.proofs.lemmas.List.Elements.{All-head, All-tail, All-contains, All-map, Contains-append_left, Contains-append_right, Contains-get_or}
use Rattle.taxi_base.specs.declared.numbers.Class.{Class}
use Rattle.taxi_base.specs.declared.numbers.Segment.{Segment}
use Rattle.taxi_base.specs.declared.rows.HeldRow.{HeldRow}
use Rattle.taxi_base.specs.declared.rows.Step.{Step}
use Rattle.taxi_base.specs.declared.answers.Flight.{Flight}
use Rattle.taxi_base.specs.declared.answers.Party.{Party}
use Rattle.taxi_base.specs.Airport.{Airport, IsWellFormed, segment_of, seconds, seconds_in, times_of, clearance_of}
use Rattle.taxi_base.specs.Windows.{hold_of}
use Rattle.taxi_base.specs.Walks.{Conditions, IsFeasibleStep, IsFeasibleWalk, begin_of, end_of}
use Rattle.taxi_base.specs.State.{State, name_precedes, without, flight_holds, party_hold, conditions_of, IsFeasibleHold, IsSound}
use Rattle.taxi_base.specs.Reports.{flight_row, timetable_rows, held_row, IsHeldRow, row_precedes, AreHeldRows}
use Rattle.taxi_base.proofs.AirportLaws.{arc_exists-segment}
use Rattle.taxi_base.proofs.ListLaws.{Contains-first, Contains-rest, Contains-cons_cases, Contains-map, map-Contains, Contains-flat_map, AllPairs-first, AllPairs-rest}
use Rattle.taxi_base.proofs.NameLaws.{name_precedes-not_itself}
use Rattle.taxi_base.proofs.WalkLaws.{IsSomeAnd-value, IsFeasibleWalk-steps}
use Rattle.replies.specs.Printable.{IsShort, IsCount, IsName, HasClass, IsPrintableHeld, IsPrintableFlight}
use Rattle.replies.specs.Replies.{HaveNames}
use Rattle.replies.proofs.FoundLaws.{step-enter, walk-begin, walk-end, walk-few}

-- ---- a list in which nothing stands twice is no longer than one that has all of it

-- a list without one of its elements
record IsTaken {X : Type 0} (xs : List X) (x : X) : Type 0 where
  rest : List X
  count : length xs ≡ length rest + 1
  others : (y : X) → Contains xs y → (x ≡ y) ⊎ Contains rest y

taken : {X : Type 0} (xs : List X) (x : X) → Contains xs x → IsTaken xs x
taken [] x there = absurd (omega (arith, there.1))
taken (y ∷ ys) x there =
    elim (Contains-cons_cases y x ys there) [
      | inl same ↦ record {
        rest = ys;
        count = omega arith;
        others = λ z h. elim (Contains-cons_cases y z ys h) [ inl e ↦ inl (sym same ∙ e) | inr later ↦ inr later ];
      }
      | inr later ↦
          let t = taken ys x later in
          record {
            rest = y ∷ t.rest;
            count = omega (arith, t.count);
            others = λ z h. elim (Contains-cons_cases y z ys h) [
              | inl e ↦ inr (subst (Contains (y ∷ t.rest)) e (Contains-first y t.rest))
              | inr among ↦ elim (t.others z among) [ inl e ↦ inl e | inr left ↦ inr (Contains-rest y z t.rest left) ]
            ];
          }
    ]

distinct-fewer : {X : Type 0} (xs ys : List X) → AllPairs (λ a b. a ≡ b → ⊥) xs → ((x : X) → Contains xs x → Contains ys x) → length xs ≤ length ys
distinct-fewer [] ys differ among = omega arith
distinct-fewer {X} (x ∷ xs) ys differ among =
    let t = taken ys x (among x (Contains-first x xs)) in
    let later : (z : X) → Contains xs z → Contains t.rest z =
    λ z h. elim (t.others z (among z (Contains-rest x z xs h))) [
      | inl e ↦ absurd (All-contains (λ b. x ≡ b → ⊥) xs z (AllPairs-first (λ a b. a ≡ b → ⊥) x xs differ) h e)
      | inr there ↦ there
    ] in
    omega (arith, t.count, distinct-fewer xs t.rest (AllPairs-rest (λ a b. a ≡ b → ⊥) x xs differ) later)

-- a row does not stand before itself
row_precedes-not_itself : (row : HeldRow) → IsTrue (row_precedes row row) → ⊥
row_precedes-not_itself row h =
    elim (or_cases (nat_lt row.from row.from) _ h) [
      | inl low ↦ below row.from low
      | inr same ↦ elim (or_cases (nat_lt row.until row.until) _ (and_parts _ _ same).1) [
        | inl low ↦ below row.until low
        | inr too ↦ elim (or_cases (name_precedes row.flight row.flight) _ (and_parts _ _ too).1) [
          | inl before ↦ both_ways _ (name_precedes-not_itself row.flight) before
          | inr all ↦ below row.segment.0 (and_parts _ _ all).1
        ]
      ]
    ]
  where
    below : (n : ℕ) → IsTrue (nat_lt n n) → ⊥
    below n low = omega (arith, ltb-true n n low)

-- ---- a class that walks is one of the airport's

class-exists : (airport : Airport) (class : Class) (s : Segment) (n : ℕ) → seconds airport class s ≡ Some n → HasClass airport class
unfolding seconds_in
class-exists airport class s n known =
    elim (cases_lt class.0 (length airport.classes)) [
      | inl low ↦ low
      | inr past ↦ absurd (cc (rw (get_or_past (times_of airport) class.0 [] (omega (arith, past, length-map airport.classes (λ c. c.seconds)))) at known))
    ]

walk-class : (c : Conditions) (steps : List Step) → IsFeasibleWalk c steps → HasClass c.airport c.class
walk-class c steps walk = go steps walk where
  by-step : (s : Step) → IsFeasibleStep c s → HasClass c.airport c.class
  by-step s made =
      let known = IsSomeAnd-value (seconds c.airport c.class (segment_of s.arc)) (λ n. s.enter + n ≤ s.leave) made.lasts in
      class-exists c.airport c.class (segment_of s.arc) known.0 known.1

  go : (steps : List Step) → IsFeasibleWalk c steps → HasClass c.airport c.class
  go [] walk = absurd walk
  go (s ∷ []) walk = by-step s walk
  go (s ∷ t ∷ steps) walk = by-step s walk.0

-- ---- what all holders hold

module _ (airport : Airport) (state : State) where
  abbrev held_by : Flight → List HeldRow
  held_by flight = map (held_row flight.name) (flight_holds airport flight)

  abbrev held_by_party : Party → HeldRow
  held_by_party party = held_row party.name (party_hold party)

  abbrev held_by_all : List HeldRow
  held_by_all = map held_by_party state.parties ++ flat_map held_by state.flights

  held-among : (row : HeldRow) → IsHeldRow airport state row → Contains held_by_all row
  held-among row (inl held) =
      Contains-append_left (map held_by_party state.parties) (flat_map held_by state.flights) row
      (subst (Contains (map held_by_party state.parties)) (sym held.2) (Contains-map held_by_party state.parties held.0 held.1))
  held-among row (inr held) =
      Contains-append_right (map held_by_party state.parties) (flat_map held_by state.flights) row
      (subst (Contains (flat_map held_by state.flights)) (sym held.4)
      (Contains-flat_map held_by state.flights held.0 (held_row held.0.name held.2) held.1 (Contains-map (held_row held.0.name) (flight_holds airport held.0) held.2 held.3)))

module _ (airport : Airport) (state : State) (well : IsWellFormed airport) (sound : IsSound airport state) where
  walk-of : (flight : Flight) → Contains state.flights flight → IsFeasibleWalk (conditions_of airport state flight) flight.steps
  walk-of flight there = All-contains (λ f. IsFeasibleWalk (conditions_of airport state f) f.steps) state.flights flight sound.feasible.walks there

  held_by-few : (flight : Flight) → Contains state.flights flight → length (held_by airport state flight) ≤ 604800
  held_by-few flight there =
      omega (
        arith,
        length-map (flight_holds airport flight) (held_row flight.name),
        length-map flight.steps (hold_of airport.horizon (clearance_of airport flight.class)),
        walk-few (conditions_of airport state flight) well flight.steps (walk-of flight there),
        well.horizon.1,
      )

  flights-few : (flights : List Flight) → All (λ f. length (held_by airport state f) ≤ 604800) flights → length (flat_map (held_by airport state) flights) ≤ 604800 * length flights
  flights-few [] few = omega arith
  flights-few (f ∷ flights) few =
      omega (
        arith,
        length-append (held_by airport state f) (flat_map (held_by airport state) flights),
        All-head (λ f. length (held_by airport state f) ≤ 604800) f flights few,
        flights-few flights (All-tail (λ f. length (held_by airport state f) ≤ 604800) f flights few),
      )

  -- an occupancy has at most as many rows as there are holds
  pub held-count : (segment : Segment) (rows : List HeldRow) → AreHeldRows airport state segment rows → IsCount (length rows)
  held-count segment rows held =
      let differ : AllPairs (λ a b. a ≡ b → ⊥) rows =
      λ i j d low high same. row_precedes-not_itself (get_or rows j d) (subst (λ a. IsTrue (row_precedes a (get_or rows j d))) same (held.ordered i j d low high)) in
      let fewer = distinct-fewer rows (held_by_all airport state) differ (λ row there. held-among airport state row ((held.whole row).0 there).0) in
      let flights = flights-few state.flights (λ k d low. held_by-few (get_or state.flights k d) (Contains-get_or state.flights k d low)) in
      omega (
        arith,
        fewer,
        flights,
        length-append (map (held_by_party airport state) state.parties) (flat_map (held_by airport state) state.flights),
        length-map state.parties (held_by_party airport state),
        sound.feasible.few,
      )

  pub timetable-count : IsCount (length (timetable_rows state))
  timetable-count = omega (arith, length-map state.flights flight_row, sound.feasible.few)

  -- ---- their rows

  module _ (names : HaveNames state) where
    short : (n : ℕ) → n ≤ airport.horizon → IsShort n
    short n by = omega (arith, by, well.horizon.1)

    row-printable : (row : HeldRow) → IsHeldRow airport state row → IsPrintableHeld airport row
    row-printable row (inl held) =
        let party = held.0 in
        let shut = All-contains (λ p. IsFeasibleHold airport (without p.name state) (party_hold p)) state.parties party sound.feasible.shut held.1 in
        subst (IsPrintableHeld airport) (sym held.2) (
          short party.from (omega (arith, shut.some, shut.in_time)),
          (short party.until shut.in_time, (All-contains (λ p. IsName p.name) state.parties party names.1 held.1, shut.on_segment)),
        )
    row-printable row (inr held) =
        let flight = held.0 in
        let c : Conditions = conditions_of airport state flight in
        let clearance : ℕ = clearance_of airport flight.class in
        let of = map-Contains (hold_of airport.horizon clearance) flight.steps held.2 held.3 in
        let step = of.0 in
        let made : IsFeasibleStep c step = All-contains (IsFeasibleStep c) flight.steps step (IsFeasibleWalk-steps c flight.steps (walk-of flight held.1)) of.1 in
        subst (IsPrintableHeld airport) (sym held.4)
        (subst (λ hold. IsPrintableHeld airport (held_row flight.name hold)) of.2 (
          short step.enter (step-enter c step made),
          (
            short (hold_of airport.horizon clearance step).span.until (omega arith),
            (All-contains (λ f. IsName f.name) state.flights flight names.0 held.1, arc_exists-segment airport step.arc made.on_arc),
          ),
        ))

    pub held-printable : (segment : Segment) (rows : List HeldRow) → AreHeldRows airport state segment rows → All (IsPrintableHeld airport) rows
    held-printable segment rows held = λ k d low. row-printable (get_or rows k d) ((held.whole (get_or rows k d)).0 (Contains-get_or rows k d low)).0

    flight-printable : (flight : Flight) → Contains state.flights flight → IsPrintableFlight airport (flight_row flight)
    flight-printable flight there =
        let c : Conditions = conditions_of airport state flight in
        let walk = walk-of flight there in (
          All-contains (λ f. IsName f.name) state.flights flight names.0 there,
          (walk-class c flight.steps walk, (short (begin_of flight.steps) (walk-begin c flight.steps walk), short (end_of flight.steps) (walk-end c flight.steps walk))),
        )

    pub timetable-printable : All (IsPrintableFlight airport) (timetable_rows state)
    timetable-printable =
        All-map (IsPrintableFlight airport) flight_row state.flights
        (λ k d low. flight-printable (get_or state.flights k d) (Contains-get_or state.flights k d low))
