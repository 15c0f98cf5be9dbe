-- A holder that was left out and is put back: the state is as before, and while it is out it may be put back.
use Rattle.std.proofs.Common.{◌≡◌, ◌≢◌, ◌∙◌, ℕ, zero, suc, ◌+◌, ◌<◌, Bool, false, List, [], ◌∷◌, length, Some, IsTrue, IsFalse, refl, sym, ap, subst, arith, inl, inr}
use Rattle.std.specs.Prelude.{All, AllPairs, bytes_eq, slice_get, IsSome}
use Rattle.std.specs.List.{find}
use Rattle.std.specs.Cmp.Lexicographic.{bytes_decides}
use Rattle.std.proofs.lemmas.Bool.{cases_Bool, both_ways, or_from}
use Rattle.std.proofs.lemmas.List.Elements.{All-head, All-tail, All-weaker}
use Rattle.taxi_base.specs.declared.answers.Flight.{Flight}
use Rattle.taxi_base.specs.declared.answers.Party.{Party}
use Rattle.taxi_base.specs.Airport.{Airport}
use Rattle.taxi_base.specs.Walks.{IsFeasibleWalk}
use Rattle.taxi_base.specs.State.{State, name_precedes, named, left_out, put_in, flight_named, party_named, flights_without, parties_without, without, with_flight, with_party, holder_count, has_holder, party_hold, conditions_of, IsFeasibleHold, IsFeasibleState}
use Rattle.taxi_base.specs.Faults.{conditions_in}
use Rattle.taxi_base.proofs.ListLaws.{AllPairs-first, AllPairs-rest}
use Rattle.taxi_base.proofs.NameLaws.{name_precedes-one_way, none_left, length-put_in}
use Rattle.taxi_base.proofs.NamedLists as lists
use Rattle.taxi_base.proofs.FlightNames.{precedes_itself}

-- what is so of all is so of the one that is found
All-found : {X : Type 0} (P : X → Type 0) (p : X → Bool) (xs : List X) (x : X) → All P xs → find p xs ≡ Some x → P x
All-found P p [] x all e = absurd (cc e)
All-found P p (y ∷ ys) x all e =
    elim (cases_Bool (p y)) [
      | inl here ↦ let is : y ≡ x = cc (rw here at e) in subst P is (All-head P y ys all)
      | inr other ↦ All-found P p ys x (All-tail P y ys all) (rw other at e)
    ]

differ-not_same : (a b : List ℕ) → IsFalse (bytes_eq a b) → a ≢ b
differ-not_same a b other = λ e. both_ways _ other ((bytes_decides a b).1 e)

differ-not_same_turned : (a b : List ℕ) → IsFalse (bytes_eq a b) → b ≢ a
differ-not_same_turned a b other = λ e. differ-not_same a b other (sym e)

-- ---- in a list by rising names

module _ {X : Type 0} (name_of : X → List ℕ) (x : X) where
  abbrev Precedes : X → X → Type 0
  Precedes a b = IsTrue (name_precedes (name_of a) (name_of b))

  abbrev is_it : X → Bool
  is_it y = bytes_eq (name_of y) (name_of x)

  in_front : (xs : List X) → All (Precedes x) xs → put_in name_of x xs ≡ x ∷ xs
  in_front [] before = refl
  in_front (y ∷ ys) before = rw (All-head (Precedes x) y ys before) refl

  pub put_in-back : (xs : List X) → AllPairs Precedes xs → named name_of (name_of x) xs ≡ Some x → put_in name_of x (left_out name_of (name_of x) xs) ≡ xs
  put_in-back [] ordered found = absurd (cc found)
  put_in-back (y ∷ ys) ordered found =
      let later : All (Precedes y) ys = AllPairs-first Precedes y ys ordered in
      elim (cases_Bool (is_it y)) [
        | inl here ↦
            let is : y ≡ x = cc (rw here at found) in
            let others : All (λ z. name_of z ≢ name_of x) ys =
            All-weaker (Precedes y) (λ z. name_of z ≢ name_of x) (λ z before e. precedes_itself (name_of y) (name_of z) before (ap name_of is ∙ sym e)) ys later in
            rw (here, lists.absent-without name_of (name_of x) ys others)
            (in_front ys (subst (λ (z : X). All (Precedes z) ys) is later) ∙ ap (λ (z : X). z ∷ ys) (sym is))
        | inr other ↦
            let rest : named name_of (name_of x) ys ≡ Some x = rw other at found in
            let after : IsFalse (name_precedes (name_of x) (name_of y)) = name_precedes-one_way (name_of y) (name_of x) (All-found (Precedes y) is_it ys x later rest) in
            rw (other, after) (ap (λ (zs : List X). y ∷ zs) (put_in-back ys (AllPairs-rest Precedes y ys ordered) rest))
      ]

  pub length-back : (xs : List X) → AllPairs Precedes xs → named name_of (name_of x) xs ≡ Some x → length (left_out name_of (name_of x) xs) + 1 ≡ length xs
  length-back xs ordered found = sym (length-put_in name_of x (left_out name_of (name_of x) xs)) ∙ ap length (put_in-back xs ordered found)

-- what stands at a place is found by its name
pub named-there : {X : Type 0} (name_of : X → List ℕ) (xs : List X) (i : ℕ) (x : X) → slice_get xs i ≡ Some x → IsSome (named name_of (name_of x) xs)
named-there name_of [] i x found = absurd (cc found)
named-there name_of (y ∷ ys) zero x found =
    let is : y ≡ x = cc found in
    let here : IsTrue (bytes_eq (name_of y) (name_of x)) = (bytes_decides (name_of y) (name_of x)).1 (ap name_of is) in
    rw here refl
named-there name_of (y ∷ ys) (suc i) x found =
    elim (cases_Bool (bytes_eq (name_of y) (name_of x))) [
      | inl here ↦ rw here refl
      | inr other ↦ rw other (named-there name_of ys i x found)
    ]

-- ---- in a state

-- no holder has the name of one that is left out
pub absent-out : (name : List ℕ) (state : State) → has_holder name (without name state) ≡ false
absent-out name state = or_from _ _ (none_left (λ (p : Party). p.name) name state.parties) (none_left (λ (f : Flight). f.name) name state.flights)

module _ (airport : Airport) (state : State) (feasible : IsFeasibleState airport state) (name : List ℕ) where
  module _ (flight : Flight) (found : flight_named name state.flights ≡ Some flight) where
    is_named : flight.name ≡ name
    is_named = lists.find-named (λ (f : Flight). f.name) name state.flights flight found

    by_name : flight_named flight.name state.flights ≡ Some flight
    by_name = ap (λ (n : List ℕ). flight_named n state.flights) is_named ∙ found

    no_party : parties_without flight.name state.parties ≡ state.parties
    no_party =
        lists.absent-without (λ (p : Party). p.name) flight.name state.parties
        (All-weaker (λ (p : Party). All (λ (f : Flight). IsFalse (bytes_eq f.name p.name)) state.flights) (λ (p : Party). p.name ≢ flight.name)
        (λ p others. differ-not_same_turned flight.name p.name (All-found (λ (f : Flight). IsFalse (bytes_eq f.name p.name)) (λ (f : Flight). bytes_eq f.name name) state.flights flight others found))
        state.parties feasible.differ)

    back : with_flight flight (without flight.name state) ≡ state
    back =
        let flights = put_in-back (λ (f : Flight). f.name) flight state.flights feasible.ordered by_name in
        let parties = no_party in
        λ i. record { flights = flights i; parties = parties i }

    pub flight-back : with_flight flight (without name state) ≡ state
    flight-back = ap (λ (n : List ℕ). with_flight flight (without n state)) (sym is_named) ∙ back

    pub flight-few : holder_count (without name state) < 4096
    flight-few =
        let shorter = length-back (λ (f : Flight). f.name) flight state.flights feasible.ordered by_name in
        let same = ap length no_party in
        let few = feasible.few in
        subst (λ (n : List ℕ). holder_count (without n state) < 4096) is_named (omega arith)

    pub flight-absent : has_holder flight.name (without name state) ≡ false
    flight-absent = subst (λ (n : List ℕ). has_holder n (without name state) ≡ false) (sym is_named) (absent-out name state)

    pub flight-walk : IsFeasibleWalk (conditions_in airport flight.class (without name state)) flight.steps
    flight-walk =
        subst (λ (n : List ℕ). IsFeasibleWalk (conditions_in airport flight.class (without n state)) flight.steps) is_named
        (All-found (λ (f : Flight). IsFeasibleWalk (conditions_of airport state f) f.steps) (λ (f : Flight). bytes_eq f.name name) state.flights flight feasible.walks found)

  module _ (party : Party) (found : party_named name state.parties ≡ Some party) where
    party-named : party.name ≡ name
    party-named = lists.find-named (λ (p : Party). p.name) name state.parties party found

    party-by_name : party_named party.name state.parties ≡ Some party
    party-by_name = ap (λ (n : List ℕ). party_named n state.parties) party-named ∙ found

    no_flight : flights_without party.name state.flights ≡ state.flights
    no_flight =
        lists.absent-without (λ (f : Flight). f.name) party.name state.flights
        (All-weaker (λ (f : Flight). IsFalse (bytes_eq f.name party.name)) (λ (f : Flight). f.name ≢ party.name) (λ f other. differ-not_same f.name party.name other) state.flights
        (All-found (λ (p : Party). All (λ (f : Flight). IsFalse (bytes_eq f.name p.name)) state.flights) (λ (p : Party). bytes_eq p.name name) state.parties party feasible.differ found))

    party-back_by_name : with_party party (without party.name state) ≡ state
    party-back_by_name =
        let flights = no_flight in
        let parties = put_in-back (λ (p : Party). p.name) party state.parties feasible.parties_ordered party-by_name in
        λ i. record { flights = flights i; parties = parties i }

    pub party-back : with_party party (without name state) ≡ state
    party-back = ap (λ (n : List ℕ). with_party party (without n state)) (sym party-named) ∙ party-back_by_name

    pub party-few : holder_count (without name state) < 4096
    party-few =
        let shorter = length-back (λ (p : Party). p.name) party state.parties feasible.parties_ordered party-by_name in
        let same = ap length no_flight in
        let few = feasible.few in
        subst (λ (n : List ℕ). holder_count (without n state) < 4096) party-named (omega arith)

    pub party-absent : has_holder party.name (without name state) ≡ false
    party-absent = subst (λ (n : List ℕ). has_holder n (without name state) ≡ false) (sym party-named) (absent-out name state)

    pub party-shut : IsFeasibleHold airport (without name state) (party_hold party)
    party-shut =
        subst (λ (n : List ℕ). IsFeasibleHold airport (without n state) (party_hold party)) party-named
        (All-found (λ (p : Party). IsFeasibleHold airport (without p.name state) (party_hold p)) (λ (p : Party). bytes_eq p.name name) state.parties party feasible.shut found)
