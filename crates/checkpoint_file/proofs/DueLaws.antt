-- The commands of a checkpoint are due `filed`, each in the state that those before it left.
use Rattle.std.proofs.Common.{◌≡◌, ◌≢◌, ◌∙◌, ◌<◌, ◌≤◌, ℕ, false, List, [], ◌∷◌, ◌++◌, length, map, refl, ap, sym, subst, arith, inl, inr, Some, None, append_assoc, append-nil, length-append}
use Rattle.std.specs.Prelude.{All, AllPairs, Contains, IsTrue, IsFalse, bytes_eq, is_some, not}
use Rattle.std.specs.Cmp.Lexicographic.{bytes_decides}
use Rattle.std.proofs.lemmas.Bool.{both_ways, cases_lt, lt-ltb, not-true}
use Rattle.std.proofs.lemmas.List.{length-map, map_push}
use Rattle.std.proofs.lemmas.List.Elements.{All-weaker, All-contains, All-contains_itself, Contains-append_left, Contains-append_right}
use Rattle.std.proofs.lemmas.List.Kept.{AllPairs-filter}
use Rattle.std.proofs.lemmas.List.Sums.{length-filter, count_by-le-length}
use Rattle.taxi_base.specs.declared.numbers.Class.{Class}
use Rattle.taxi_base.specs.declared.rows.Step.{Step}
use Rattle.taxi_base.specs.declared.answers.Flight.{Flight}
use Rattle.taxi_base.specs.declared.answers.Party.{Party}
use Rattle.taxi_base.specs.Airport.{Airport, IsWellFormed, layout_of, arc_exists, class_named}
use Rattle.taxi_base.specs.Walks.{Conditions, AreJoined, IsFeasibleStep, IsFeasibleWalk, begin_of}
use Rattle.taxi_base.specs.State.{State, name_precedes, named, put_in, without, with_flight, with_party, has_holder, holder_count, party_hold, conditions_of, IsFeasibleHold, IsSound}
use Rattle.taxi_base.specs.Reports.{flight_row, timetable_rows}
use Rattle.taxi_base.specs.Faults.{route_fault}
use Rattle.taxi_base.proofs.ListLaws.{Contains-first, Contains-rest, Contains-cons_cases, AllPairs-first, AllPairs-rest, map-Contains, Contains-map, filter-Contains}
use Rattle.taxi_base.proofs.NameLaws.{differ-turned, name_precedes-differ, name_precedes-one_way}
use Rattle.taxi_base.proofs.NamedLists.{absent-find}
use Rattle.taxi_base.proofs.FlightNames.{precedes_itself}
use Rattle.taxi_base.proofs.WalkLaws.{IsFeasibleWalk-steps}
use Rattle.taxi_base.proofs.FaultLaws.{route_fault-None, hold_fault-None}
use Rattle.taxi_text.specs.declared.command.Command.TheVariants.{File, Work}
use Rattle.replies.specs.declared.block.Block.{Block}
use Rattle.airport_file.specs.Words.{class_word}
use Rattle.airport_file.proofs.NamedPlaces.{word-found}
use Rattle.replies.specs.Printable.{HasClass, IsName, IsShort, IsPrintableFlight}
use Rattle.replies.proofs.ReportsTold.{timetable-printable}
use Rattle.replies.specs.Replies.{IsDueTo, IsDue, HaveNames}
use Rattle.block_reader.proofs.Places.{segment-again}
use Rattle.transcripts.specs.Runs.{InTurn}
use Rattle.command_refusals.proofs.FiledDue.{file-due}
use Rattle.command_refusals.proofs.WorkDue.{work-due}
use Rattle.checkpoint_file.specs.Lines.{is_too_long}
use Rattle.checkpoint_file.specs.Restored.{fileable, as_filed, restored, flight_filed, party_filed}
use Rattle.checkpoint_file.proofs.CommandsAgain.{file_line, work_line}
use Rattle.checkpoint_file.proofs.ReadAgain.{filed_of, shut_of, IsTellable, file-again, route-again, work-again}
use Rattle.checkpoint_file.proofs.PartLaws.{IsPartWithout, part-walk, part-hold}

-- ---- lists by rising names

-- what comes before something in an order
before-it : {X : Type 0} (R : X → X → Type 0) (xs : List X) (y : X) (ys : List X) → AllPairs R (xs ++ y ∷ ys) → (x : X) → Contains xs x → R x y
before-it R [] y ys ordered x there = absurd (omega (arith, there.1))
before-it R (z ∷ zs) y ys ordered x there = elim (Contains-cons_cases z x zs there) [
  | inl is ↦
      subst (λ w. R w y) is (All-contains (R z) (zs ++ y ∷ ys) y (AllPairs-first R z (zs ++ y ∷ ys) ordered) (Contains-append_right zs (y ∷ ys) y (Contains-first y ys)))
  | inr later ↦ before-it R zs y ys (AllPairs-rest R z (zs ++ y ∷ ys) ordered) x later
]

-- what comes last by its name is put in at the end
put-last : {X : Type 0} (name_of : X → List ℕ) (x : X) (xs : List X) → ((y : X) → Contains xs y → IsTrue (name_precedes (name_of y) (name_of x))) → put_in name_of x xs ≡ xs ++ x ∷ []
put-last name_of x [] before = refl
put-last name_of x (y ∷ ys) before =
    rw (name_precedes-one_way (name_of y) (name_of x) (before y (Contains-first y ys)))
    (ap (λ zs. y ∷ zs) (put-last name_of x ys (λ z there. before z (Contains-rest y z ys there))))

-- nothing has a name that is none of theirs
absent : {X : Type 0} (name_of : X → List ℕ) (name : List ℕ) (xs : List X) → ((x : X) → Contains xs x → name_of x ≢ name) → is_some (named name_of name xs) ≡ false
absent name_of name xs other =
    rw (absent-find name_of name xs (All-weaker (Contains xs) (λ x. name_of x ≢ name) other xs (All-contains_itself xs))) refl

-- ---- what is in force so far

abbrev so_far : List Flight → List Party → State
so_far flights parties = record { flights = map as_filed flights; parties = parties }

-- flights alone
abbrev only : List Flight → State
only flights = record { flights = flights; parties = [] }

-- a class is found by its word
class-again : (airport : Airport) → IsWellFormed airport → (class : Class) → HasClass airport class → class_named airport (class_word airport class) ≡ Some class
unfolding class_named
class-again airport well class has = rw ((word-found (λ c. c.name) airport.classes class.0 32 well.classes has).place) refl

-- flights of the state by rising names, none of them too long
record AreFileable (state : State) (flights : List Flight) : Type 0 where
  ordered : AllPairs (λ f g. IsTrue (name_precedes f.name g.name)) flights
  there : (f : Flight) → Contains flights f → Contains state.flights f × (length f.steps ≤ 256)
  few : length flights ≤ length state.flights

module _ (airport : Airport) (well : IsWellFormed airport) (state : State) (sound : IsSound airport state) (names : HaveNames state) where
  -- ---- one flight

  walk-of : (flight : Flight) → Contains state.flights flight → IsFeasibleWalk (conditions_of airport state flight) flight.steps
  walk-of flight there = All-contains (λ (f : Flight). IsFeasibleWalk (conditions_of airport state f) f.steps) state.flights flight sound.feasible.walks there

  joined : (c : Conditions) (steps : List Step) → IsFeasibleWalk c steps → AreJoined steps
  joined c [] walk = absurd walk
  joined c (s ∷ []) walk = tt
  joined c (s ∷ t ∷ steps) walk = (walk.1.at_once, joined c (t ∷ steps) walk.2)

  some-step : (c : Conditions) (steps : List Step) → IsFeasibleWalk c steps → 0 < length steps
  some-step c [] walk = absurd walk
  some-step c (s ∷ steps) walk = omega arith

  class-of : (flight : Flight) → Contains state.flights flight → HasClass airport flight.class × IsShort (begin_of flight.steps)
  class-of flight there =
      let row = All-contains (IsPrintableFlight airport) (timetable_rows state) (flight_row flight) (timetable-printable airport state well sound names) (Contains-map flight_row state.flights flight there) in
      (row.1.0, row.1.1.0)

  tellable : (flight : Flight) → Contains state.flights flight → All (IsTellable airport) flight.steps
  tellable flight there =
      let near = well.horizon.1 in
      All-weaker (IsFeasibleStep (conditions_of airport state flight)) (IsTellable airport)
      (λ s made. record { arc = made.on_arc; leave = let by = made.in_time in omega (arith, by, near) }) flight.steps
      (IsFeasibleWalk-steps (conditions_of airport state flight) flight.steps (walk-of flight there))

  -- the flights filed so far are a part of the others
  module _ (done : List Flight) (flight : Flight) (rest : List Flight) (are : AreFileable state (done ++ flight ∷ rest)) where
    there-is : Contains state.flights flight × (length flight.steps ≤ 256)
    there-is = are.there flight (Contains-append_right done (flight ∷ rest) flight (Contains-first flight rest))

    earlier : (f : Flight) → Contains done f → IsTrue (name_precedes f.name flight.name)
    earlier f in_done = before-it (λ (f g : Flight). IsTrue (name_precedes f.name g.name)) done flight rest are.ordered f in_done

    part : IsPartWithout state flight.name (so_far done [])
    part = record {
      flights = λ f held.
          let found = map-Contains as_filed done f held in
          (found.0, (are.there found.0 (Contains-append_left done (flight ∷ rest) found.0 found.1)).0, differ-turned flight.name found.0.name (name_precedes-differ found.0.name flight.name (earlier found.0 found.1)), found.2);
      parties = λ p held. absurd (omega (arith, held.1));
    }

    new-name : has_holder flight.name (so_far done []) ≡ false
    new-name =
        absent (λ (f : Flight). f.name) flight.name (map as_filed done) (λ f held.
        let found = map-Contains as_filed done f held in
        subst (λ (g : Flight). g.name ≢ flight.name) found.2 (precedes_itself found.0.name flight.name (earlier found.0 found.1)))

    room : holder_count (so_far done []) < 4096
    room =
        let few = are.few in
        let all = sound.feasible.few in
        omega (arith, few, all, length-append done (flight ∷ rest), length-map done as_filed)

    faultless : route_fault airport flight.class (so_far done []) flight.steps ≡ None
    faultless =
        let walk = walk-of flight there-is.0 in
        let c : Conditions = conditions_of airport state flight in
        (route_fault-None airport flight.class (so_far done []) flight.steps (some-step c flight.steps walk)
        (All-weaker (IsFeasibleStep c) (λ s. IsTrue (arc_exists (layout_of airport) s.arc)) (λ s made. made.on_arc) flight.steps (IsFeasibleWalk-steps c flight.steps walk))
        (joined c flight.steps walk)).1
        (part-walk airport state flight.name (so_far done []) part flight refl walk)

    in-force : with_flight (as_filed flight) (so_far done []) ≡ so_far (done ++ flight ∷ []) []
    in-force =
        let put : put_in (λ (f : Flight). f.name) (as_filed flight) (map as_filed done) ≡ map as_filed (done ++ flight ∷ []) =
        put-last (λ (f : Flight). f.name) (as_filed flight) (map as_filed done) (λ f held.
        let found = map-Contains as_filed done f held in
        subst (λ (g : Flight). IsTrue (name_precedes g.name flight.name)) found.2 (earlier found.0 found.1))
        ∙ sym (map_push as_filed done flight) in
        ap only put

    flight-due : IsDue airport (so_far done []) (file_line airport flight) (flight_filed flight) (so_far (done ++ flight ∷ []) [])
    unfolding IsDue
    flight-due =
        let class = class-of flight there-is.0 in
        let walk = walk-of flight there-is.0 in
        let c : Conditions = conditions_of airport state flight in
        let some = some-step c flight.steps walk in
        let told = tellable flight there-is.0 in
        let name = All-contains (λ (f : Flight). IsName f.name) state.flights flight names.0 there-is.0 in
        rw (file-again airport well flight name class.0 class.1 told some there-is.1)
        (subst (λ (after : State). IsDueTo airport (so_far done []) (File (filed_of airport flight)) (flight_filed flight) after) in-force
        (file-due airport (so_far done []) (filed_of airport flight) flight.class flight.steps new-name (class-again airport well flight.class class.0)
        (route-again airport well flight.steps some (joined c flight.steps walk) told) room faultless))

  -- ---- one party

  -- the flights of the state that are not too long
  module _ (flights : List Flight) (are : AreFileable state flights) (done : List Party) (party : Party) (rest : List Party) (all : done ++ party ∷ rest ≡ state.parties) where
    here : Contains state.parties party
    here = subst (λ (ps : List Party). Contains ps party) all (Contains-append_right done (party ∷ rest) party (Contains-first party rest))

    before : (p : Party) → Contains done p → IsTrue (name_precedes p.name party.name)
    before p in_done =
        before-it (λ (p q : Party). IsTrue (name_precedes p.name q.name)) done party rest
        (subst (AllPairs (λ (p q : Party). IsTrue (name_precedes p.name q.name))) (sym all) sound.feasible.parties_ordered) p in_done

    differs : (f : Flight) → Contains flights f → IsFalse (bytes_eq f.name party.name)
    differs f held =
        All-contains (λ (f : Flight). IsFalse (bytes_eq f.name party.name)) state.flights f
        (All-contains (λ (p : Party). All (λ (f : Flight). IsFalse (bytes_eq f.name p.name)) state.flights) state.parties party sound.feasible.differ here)
        (are.there f held).0

    others : IsPartWithout state party.name (so_far flights done)
    others = record {
      flights = λ f held. let found = map-Contains as_filed flights f held in (found.0, (are.there found.0 found.1).0, differs found.0 found.1, found.2);
      parties = λ p held. (
        subst (λ (ps : List Party). Contains ps p) all (Contains-append_left done (party ∷ rest) p held),
        differ-turned party.name p.name (name_precedes-differ p.name party.name (before p held)),
      );
    }

    new-party : has_holder party.name (so_far flights done) ≡ false
    new-party =
        let no_party = absent (λ (p : Party). p.name) party.name done (λ p held. precedes_itself p.name party.name (before p held)) in
        let no_flight = absent (λ (f : Flight). f.name) party.name (map as_filed flights) (λ f held same.
        let found = map-Contains as_filed flights f held in
        let is : found.0.name ≡ party.name = ap (λ (g : Flight). g.name) found.2 ∙ same in
        both_ways _ (differs found.0 found.1) ((bytes_decides found.0.name party.name).1 is)) in
        rw (no_party, no_flight) refl

    party-room : holder_count (so_far flights done) < 4096
    party-room =
        let few = are.few in
        let most = sound.feasible.few in
        let count = ap (λ (ps : List Party). length ps) all in
        omega (arith, few, most, count, length-append done (party ∷ rest), length-map flights as_filed)

    shut : IsFeasibleHold airport (without party.name state) (party_hold party)
    shut = All-contains (λ (p : Party). IsFeasibleHold airport (without p.name state) (party_hold p)) state.parties party sound.feasible.shut here

    with-party : with_party party (so_far flights done) ≡ so_far flights (done ++ party ∷ [])
    with-party = ap (λ (parties : List Party). so_far flights parties) (put-last (λ (p : Party). p.name) party done before)

    party-due : IsDue airport (so_far flights done) (work_line airport party) (party_filed party) (so_far flights (done ++ party ∷ []))
    unfolding IsDue
    party-due =
        let near = well.horizon.1 in
        let some = shut.some in
        let by = shut.in_time in
        let name = All-contains (λ (p : Party). IsName p.name) state.parties party names.1 here in
        let faultless = (hold_fault-None airport (so_far flights done) (party_hold party) shut.on_segment).1 (part-hold airport state party.name (so_far flights done) others (party_hold party) shut) in
        rw (work-again airport well party name shut.on_segment (omega (arith, near, some, by)) (omega (arith, near, by)))
        (subst (λ (after : State). IsDueTo airport (so_far flights done) (Work (shut_of airport party)) (party_filed party) after) with-party
        (work-due airport (so_far flights done) (shut_of airport party) party.segment new-party (segment-again airport well party.segment shut.on_segment) party-room faultless))

  -- ---- all of them, one after the other

  parties-due : (flights : List Flight) → AreFileable state flights → (done rest : List Party) → done ++ rest ≡ state.parties
      → InTurn IsDue airport (so_far flights done) (map (work_line airport) rest) (map party_filed rest) (so_far flights state.parties)
  parties-due flights are done [] all = ap (λ (parties : List Party). so_far flights parties) (sym all ∙ append-nil done)
  parties-due flights are done (party ∷ rest) all = (
    so_far flights (done ++ party ∷ []),
    party-due flights are done party rest all,
    parties-due flights are (done ++ party ∷ []) rest (append_assoc done (party ∷ []) rest ∙ all),
  )

  flights-due : (lines : List (List ℕ)) (blocks : List Block) (after : State) (done rest : List Flight) → AreFileable state (done ++ rest)
      → InTurn IsDue airport (so_far (done ++ rest) []) lines blocks after
      → InTurn IsDue airport (so_far done []) (map (file_line airport) rest ++ lines) (map flight_filed rest ++ blocks) after
  flights-due lines blocks after done [] are onward =
      subst (λ (flights : List Flight). InTurn IsDue airport (so_far flights []) lines blocks after) (append-nil done) onward
  flights-due lines blocks after done (flight ∷ rest) are onward =
      let same : (done ++ flight ∷ []) ++ rest ≡ done ++ flight ∷ rest = append_assoc done (flight ∷ []) rest in (
        so_far (done ++ flight ∷ []) [],
        flight-due done flight rest are,
        flights-due lines blocks after (done ++ flight ∷ []) rest (subst (AreFileable state) (sym same) are)
            (subst (λ (flights : List Flight). InTurn IsDue airport (so_far flights []) lines blocks after) (sym same) onward),
      )

  -- the flights of the state that a command can file
  filed : AreFileable state (fileable state.flights)
  filed = record {
    ordered = AllPairs-filter (λ (f g : Flight). IsTrue (name_precedes f.name g.name)) (λ f. not (is_too_long f)) state.flights sound.feasible.ordered;
    there = λ f held.
        let kept = filter-Contains (λ (f : Flight). not (is_too_long f)) state.flights f held in
        (kept.0, short-enough f (not-true (is_too_long f) kept.1));
    few =
        let count = length-filter (λ (f : Flight). not (is_too_long f)) state.flights in
        let most = count_by-le-length (λ (f : Flight). not (is_too_long f)) state.flights in
        omega (arith, count, most);
  } where
    short-enough : (f : Flight) → is_too_long f ≡ false → length f.steps ≤ 256
    short-enough f e = elim (cases_lt 256 (length f.steps)) [
      | inl long ↦ absurd (both_ways (is_too_long f) e (lt-ltb 256 (length f.steps) long))
      | inr few ↦ few
    ]

  pub all-due : InTurn IsDue airport (so_far [] []) (map (file_line airport) (fileable state.flights) ++ map (work_line airport) state.parties)
      (map flight_filed (fileable state.flights) ++ map party_filed state.parties) (restored state)
  all-due =
      flights-due (map (work_line airport) state.parties) (map party_filed state.parties) (restored state) [] (fileable state.flights) filed
      (parties-due (fileable state.flights) filed [] state.parties refl)
