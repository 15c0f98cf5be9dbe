-- States without the holders of some names, and with holders more: who is in force in them.
use Rattle.std.proofs.Common.{◌≡◌, ◌∙◌, ℕ, ◌+◌, ◌||◌, List, [], ◌∷◌, ◌++◌, length, map, get_or, not, is_some, IsFalse, Some, refl, sym, ap, subst, arith, inl, inr, ◌⊎◌}
use Rattle.std.specs.Prelude.{All, Contains, bytes_eq}
use Rattle.std.proofs.lemmas.Bool.{or_from, both_ways}
use Rattle.std.proofs.lemmas.List.Elements.{All-head, All-tail, All-filter, All-contains, Contains-get_or}
use Rattle.std.specs.Cmp.Lexicographic.{bytes_decides}
use Rattle.taxi_base.specs.declared.answers.Flight as flights
use Rattle.taxi_base.specs.declared.answers.Party as parties
use Rattle.taxi_base.specs.Airport.{Airport}
use Rattle.taxi_base.specs.State.{State, named, flight_named, party_named, has_holder, holder_count, without, with_flight, with_party, IsFeasibleState}
use Rattle.taxi_base.proofs.ListLaws.{Contains-first, Contains-rest, Contains-cons_cases, Contains-map}
use Rattle.taxi_base.proofs.NameLaws.{differ-turned, none_left, put_in-cases, length-put_in}
use Rattle.taxi_base.proofs.NamedLists.{absent-find}
use Rattle.taxi_base.proofs.OtherHolds.{named-there, there-named}
use Rattle.taxi_base.proofs.StateLaws.{no_holder-flights, no_holder-parties}
use Rattle.taxi_base.proofs.TurnLaws.{put_in-there, put_in-stays}
use Rattle.replies.proofs.FlightLaws.{without-none}
use Rattle.commitments.specs.Book.{Book}
use Rattle.commitments.specs.Room.{HasRoomForAll}
use Rattle.commitments.proofs.RoomLaws.{room-but_flight, room-but_party}
use Rattle.late_repair.specs.declared.holder.Holder.{Holder}
use Rattle.late_repair.specs.declared.holder.Holder.TheVariants.{Flight, Party}
use Rattle.late_repair.specs.TakenOut.{name_of, with_holder, with_holders, without_all, AreOut, IsIn, IsFound}
use Rattle.late_repair.proofs.NamedLaws.{left_out-turned, left_out-none, left_out-put_in, named-none, named-left_out, named-put_in, put_in-back}

abbrev flight_name : flights.Flight → List ℕ
flight_name f = f.name

abbrev party_name : parties.Party → List ℕ
party_name p = p.name

-- ---- without holders

-- what the others are does not depend on the order
without-turned : (a b : List ℕ) (state : State) → without a (without b state) ≡ without b (without a state)
without-turned a b state =
    let fs = left_out-turned flight_name a b state.flights in
    let ps = left_out-turned party_name a b state.parties in
    λ i. record { flights = fs i; parties = ps i }

-- states that are alike without the holder of one of some names are alike without them all
pub without_all-others : (names : List (List ℕ)) (name : List ℕ) (old new : State) → Contains names name → without name new ≡ without name old → without_all names new ≡ without_all names old
without_all-others [] name old new there same = absurd (omega (arith, there.1))
without_all-others (n ∷ names) name old new there same =
    elim (Contains-cons_cases n name names there) [
      | inl e ↦ ap (without_all names) (subst (λ m. without m new ≡ without m old) (sym e) same)
      | inr later ↦ without_all-others names name (without n old) (without n new) later (without-turned name n new ∙ ap (without n) same ∙ sym (without-turned name n old))
    ]

pub without_all-more : (names : List (List ℕ)) (name : List ℕ) (state : State) → without_all (names ++ name ∷ []) state ≡ without name (without_all names state)
without_all-more [] name state = refl
without_all-more (n ∷ names) name state = without_all-more names name (without n state)

-- ---- whose names are in force

absent-from : (name : List ℕ) (state : State) → All (λ p. IsFalse (bytes_eq (party_name p) name)) state.parties → All (λ f. IsFalse (bytes_eq (flight_name f) name)) state.flights
    → IsFalse (has_holder name state)
absent-from name state ps fs = or_from _ _ (named-none party_name name state.parties ps) (named-none flight_name name state.flights fs)

pub out-absent : (name : List ℕ) (state : State) → IsFalse (has_holder name (without name state))
out-absent name state = or_from _ _ (none_left party_name name state.parties) (none_left flight_name name state.flights)

-- it stays out without others
absent-without : (name other : List ℕ) (state : State) → IsFalse (has_holder name state) → IsFalse (has_holder name (without other state))
absent-without name other state none =
    absent-from name (without other state)
    (All-filter (λ p. not (bytes_eq (party_name p) other)) (λ p. IsFalse (bytes_eq (party_name p) name)) state.parties (no_holder-parties name state none))
    (All-filter (λ f. not (bytes_eq (flight_name f) other)) (λ f. IsFalse (bytes_eq (flight_name f) name)) state.flights (no_holder-flights name state none))

absent-without_all : (name : List ℕ) (names : List (List ℕ)) (state : State) → IsFalse (has_holder name state) → IsFalse (has_holder name (without_all names state))
absent-without_all name [] state none = none
absent-without_all name (n ∷ names) state none = absent-without_all name names (without n state) (absent-without name n state none)

-- none of the names is in force without their holders
all-out : (names : List (List ℕ)) (name : List ℕ) (state : State) → Contains names name → IsFalse (has_holder name (without_all names state))
all-out [] name state there = absurd (omega (arith, there.1))
all-out (n ∷ names) name state there =
    elim (Contains-cons_cases n name names there) [
      | inl e ↦ subst (λ m. IsFalse (has_holder m (without_all names (without n state)))) e (absent-without_all n names (without n state) (out-absent n state))
      | inr later ↦ all-out names name (without n state) later
    ]

pub are-out : (holders : List Holder) (state : State) → (names : List (List ℕ)) → map name_of holders ≡ names → AreOut (without_all names state) holders
are-out holders state names same k d low =
    subst (λ ns. IsFalse (has_holder (name_of (get_or holders k d)) (without_all ns state))) same
    (all-out (map name_of holders) (name_of (get_or holders k d)) state (Contains-map name_of holders (get_or holders k d) (Contains-get_or holders k d low)))

-- and where none is, nothing is left out
pub nothing-out : (holders : List Holder) (state : State) → AreOut state holders → without_all (map name_of holders) state ≡ state
nothing-out [] state out = refl
nothing-out (h ∷ holders) state out =
    ap (without_all (map name_of holders)) (without-none (name_of h) state (All-head (λ holder. IsFalse (has_holder (name_of holder) state)) h holders out))
    ∙ nothing-out holders state (All-tail (λ holder. IsFalse (has_holder (name_of holder) state)) h holders out)

-- a name that is in force is so still without others
pub present-without : (name other : List ℕ) (state : State) → IsFalse (bytes_eq name other) → has_holder name (without other state) ≡ has_holder name state
present-without name other state differ =
    let ps = named-left_out party_name name other differ state.parties in
    let fs = named-left_out flight_name name other differ state.flights in
    λ i. is_some (ps i) || is_some (fs i)

-- ---- with holders more

pub with_holders-more : (holders : List Holder) (h : Holder) (state : State) → with_holders (holders ++ h ∷ []) state ≡ with_holders holders (with_holder h state)
with_holders-more [] h state = refl
with_holders-more (x ∷ holders) h state = ap (with_holder x) (with_holders-more holders h state)

-- of another name, one that is out stays out
pub absent-with : (name : List ℕ) (h : Holder) (state : State) → IsFalse (bytes_eq (name_of h) name) → IsFalse (has_holder name state) → IsFalse (has_holder name (with_holder h state))
absent-with name (Flight f) state other none = rw (named-put_in flight_name f name other state.flights) none
absent-with name (Party p) state other none = rw (named-put_in party_name p name other state.parties) none

-- without its name the state is as before
pub with-without : (h : Holder) (state : State) → without (name_of h) (with_holder h state) ≡ without (name_of h) state
with-without (Flight f) state =
    let fs = left_out-put_in flight_name f state.flights in
    λ i. record { flights = fs i; parties = (without f.name state).parties }
with-without (Party p) state =
    let ps = left_out-put_in party_name p state.parties in
    λ i. record { flights = (without p.name state).flights; parties = ps i }

in-there : (h : Holder) (state : State) → IsIn (with_holder h state) h
in-there (Flight f) state = put_in-there flight_name f state.flights
in-there (Party p) state = put_in-there party_name p state.parties

pub in-stays : (x h : Holder) (state : State) → IsIn state h → IsIn (with_holder x state) h
in-stays (Flight f) (Flight g) state there = put_in-stays flight_name f g state.flights there
in-stays (Flight f) (Party q) state there = there
in-stays (Party p) (Flight g) state there = there
in-stays (Party p) (Party q) state there = put_in-stays party_name p q state.parties there

-- who was in force is so still, and each that was put in is
pub all-stays : (holders : List Holder) (h : Holder) (state : State) → IsIn state h → IsIn (with_holders holders state) h
all-stays [] h state there = there
all-stays (x ∷ holders) h state there = in-stays x h (with_holders holders state) (all-stays holders h state there)

pub all-there : (holders : List Holder) (h : Holder) (state : State) → Contains holders h → IsIn (with_holders holders state) h
all-there [] h state there = absurd (omega (arith, there.1))
all-there (x ∷ holders) h state there =
    elim (Contains-cons_cases x h holders there) [
      | inl e ↦ subst (λ y. IsIn (with_holder x (with_holders holders state)) y) e (in-there x (with_holders holders state))
      | inr later ↦ in-stays x h (with_holders holders state) (all-there holders h state later)
    ]

-- and each in force was, or has one of their names
in-cases : (x h : Holder) (state : State) → IsIn (with_holder x state) h → (name_of x ≡ name_of h) ⊎ IsIn state h
in-cases (Flight f) (Flight g) state there = elim (put_in-cases flight_name f state.flights g there) [ inl e ↦ inl (ap flight_name e) | inr old ↦ inr old ]
in-cases (Flight f) (Party q) state there = inr there
in-cases (Party p) (Flight g) state there = inr there
in-cases (Party p) (Party q) state there = elim (put_in-cases party_name p state.parties q there) [ inl e ↦ inl (ap party_name e) | inr old ↦ inr old ]

pub all-cases : (holders : List Holder) (h : Holder) (state : State) → IsIn (with_holders holders state) h → Contains (map name_of holders) (name_of h) ⊎ IsIn state h
all-cases [] h state there = inr there
all-cases (x ∷ holders) h state there =
    elim (in-cases x h (with_holders holders state) there) [
      | inl e ↦ inl (subst (Contains (name_of x ∷ map name_of holders)) e (Contains-first (name_of x) (map name_of holders)))
      | inr old ↦ elim (all-cases holders h state old) [
        | inl named ↦ inl (Contains-rest (name_of x) (name_of h) (map name_of holders) named)
        | inr before ↦ inr before
      ]
    ]

-- how many there are
with-count : (h : Holder) (state : State) → holder_count (with_holder h state) ≡ holder_count state + 1
with-count (Flight f) state = omega (arith, length-put_in flight_name f state.flights)
with-count (Party p) state = omega (arith, length-put_in party_name p state.parties)

pub all-count : (holders : List Holder) (state : State) → holder_count (with_holders holders state) ≡ holder_count state + length holders
all-count [] state = omega arith
all-count (h ∷ holders) state = omega (arith, with-count h (with_holders holders state), all-count holders state)

-- where there is room for all there is room for the others
pub room-but : (airport : Airport) (book : Book) (holders : List Holder) (state : State) → HasRoomForAll airport (with_holders holders state) book → HasRoomForAll airport state book
room-but airport book [] state room = room
room-but airport book (Flight f ∷ holders) state room = room-but airport book holders state (room-but_flight airport (with_holders holders state) book f room)
room-but airport book (Party p ∷ holders) state room = room-but airport book holders state (room-but_party airport (with_holders holders state) book p room)

-- ---- who is found

pub found-in : (airport : Airport) (state : State) → IsFeasibleState airport state → (h : Holder) → IsIn state h → IsFound state h
found-in airport state feasible (Flight f) there = there-named flight_name state.flights f feasible.ordered there
found-in airport state feasible (Party p) there =
    absent-find flight_name p.name state.flights (λ k d low e.
    both_ways _ (All-contains (λ (q : parties.Party). All (λ (f : flights.Flight). IsFalse (bytes_eq f.name q.name)) state.flights) state.parties p feasible.differ there k d low)
    ((bytes_decides (flight_name (get_or state.flights k d)) p.name).1 e))

-- ---- taken out and put back

module _ (airport : Airport) (state : State) (feasible : IsFeasibleState airport state) (name : List ℕ) where
  -- a flight
  pub flight-back : (f : flights.Flight) → flight_named name state.flights ≡ Some f → with_flight f (without name state) ≡ state
  flight-back f found =
      let there = named-there flight_name name state.flights f found in
      let fs = put_in-back flight_name name f state.flights feasible.ordered found in
      let ps = left_out-none party_name name state.parties (λ k d low.
      subst (λ n. IsFalse (bytes_eq (party_name (get_or state.parties k d)) n)) there.1
      (differ-turned f.name (party_name (get_or state.parties k d)) (All-contains (λ (g : flights.Flight). IsFalse (bytes_eq g.name (party_name (get_or state.parties k d)))) state.flights f (feasible.differ k d low) there.0))) in
      λ i. record { flights = fs i; parties = ps i }

  -- a party
  pub party-back : (p : parties.Party) → party_named name state.parties ≡ Some p → with_party p (without name state) ≡ state
  party-back p found =
      let there = named-there party_name name state.parties p found in
      let ps = put_in-back party_name name p state.parties feasible.parties_ordered found in
      let fs = left_out-none flight_name name state.flights
      (subst (λ n. All (λ (f : flights.Flight). IsFalse (bytes_eq f.name n)) state.flights) there.1
      (All-contains (λ (q : parties.Party). All (λ (f : flights.Flight). IsFalse (bytes_eq f.name q.name)) state.flights) state.parties p feasible.differ there.0)) in
      λ i. record { flights = fs i; parties = ps i }
