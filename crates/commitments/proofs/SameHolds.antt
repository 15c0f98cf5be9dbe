-- The holds of flights and parties that come and go are the same in another order, and a store stands for holds in any order.
use Rattle.std.proofs.Common.{◌≡◌, ℕ, zero, suc, ◌<◌, List, [], ◌∷◌, ◌++◌, length, map, Some, refl, sym, ap, inl, inr, subst, cond, append_assoc, arith}
use Rattle.std.specs.Prelude.{flat_map, remove, slice_get}
use Rattle.std.specs.List.Sorted.{IsPermutation}
use Rattle.std.proofs.lemmas.Bool.{cases_Bool}
use Rattle.std.proofs.lemmas.List.Sorted.{IsPermutation-sym, IsPermutation-trans, IsPermutation-append_comm, IsPermutation-append_left, IsPermutation-append_right, list_any-IsPermutation, sum_by-IsPermutation}
use Rattle.std.proofs.lemmas.List.Sums.{sum_by-append}
use Rattle.taxi_base.specs.declared.numbers.Segment.{Segment}
use Rattle.taxi_base.specs.declared.rows.Step.{Step}
use Rattle.taxi_base.specs.declared.answers.Flight.{Flight}
use Rattle.taxi_base.specs.declared.answers.Party.{Party}
use Rattle.taxi_base.specs.Airport.{Airport, conflict}
use Rattle.taxi_base.specs.Windows.{Hold, blocks}
use Rattle.taxi_base.specs.State.{State, name_precedes, put_in, flights_with, parties_with, with_flight, with_party, flight_holds, flights_hold, party_hold, holds_in}
use Rattle.window_store.specs.Store.{Store}
use Rattle.window_store.specs.Stands.{StandsFor, HasRoomFor}
use Rattle.window_store.specs.Kept.{KeepsNodes}
use Rattle.window_store.proofs.Standing.{StandsFor-same}

-- ---- a store and its holds

-- a store that stands for holds stands for them in another order
pub StandsFor-permutation : (sets : List (List Segment)) (horizon : ℕ) (holds others : List Hold) (store : Store)
    → IsPermutation holds others → StandsFor sets horizon holds store → StandsFor sets horizon others store
StandsFor-permutation sets horizon holds others store moved stands =
    StandsFor-same sets horizon holds others store
    (λ segment t. list_any-IsPermutation (blocks sets segment t) holds others moved)
    (λ segment. sym (sum_by-IsPermutation (λ h. cond (conflict sets segment h.segment) 1 0) holds others moved))
    stands

-- what a store had room for, it has room for where some of the holds are gone and it has as many nodes
pub HasRoomFor-fewer : (sets : List (List Segment)) (horizon : ℕ) (holds left gone : List Hold) (old new : Store) → IsPermutation holds (left ++ gone)
    → StandsFor sets horizon holds old → StandsFor sets horizon left new → KeepsNodes old new → (steps : List Step) → HasRoomFor sets steps old → HasRoomFor sets steps new
HasRoomFor-fewer sets horizon holds left gone old new moved before after kept steps room segment within =
    let low : segment.0 < length old.lists = omega (arith, kept.lists, within) in
    let same = sum_by-IsPermutation (λ (h : Hold). cond (conflict sets segment h.segment) 1 0) holds (left ++ gone) moved in
    let both = sum_by-append (λ (h : Hold). cond (conflict sets segment h.segment) 1 0) left gone in
    omega (arith, (before segment low).number, (after segment within).number, same, both, kept.nodes segment low, room segment low)

-- ---- holders and their holds

-- what is put in by its name adds its holds
pub put_in-holds : {X Y : Type 0} (name_of : X → List ℕ) (holds : X → List Y) (x : X) (xs : List X) → IsPermutation (flat_map holds xs ++ holds x) (flat_map holds (put_in name_of x xs))
put_in-holds name_of holds x [] = IsPermutation-append_comm [] (holds x)
put_in-holds name_of holds x (y ∷ ys) =
    elim (cases_Bool (name_precedes (name_of x) (name_of y))) [
      | inl before ↦ rw before (IsPermutation-append_comm (holds y ++ flat_map holds ys) (holds x))
      | inr after ↦ rw after (rw append_assoc (IsPermutation-append_right (holds y) (flat_map holds ys ++ holds x) (flat_map holds (put_in name_of x ys)) (put_in-holds name_of holds x ys)))
    ]

-- what is at a place, taken out, leaves the holds of the others
pub remove-holds : {X Y : Type 0} (holds : X → List Y) (xs : List X) (place : ℕ) (x : X) → slice_get xs place ≡ Some x
    → IsPermutation (flat_map holds xs) (flat_map holds (remove xs place) ++ holds x)
remove-holds holds [] place x found = absurd (cc found)
remove-holds holds (y ∷ ys) zero x found =
    let same : y ≡ x = cc found in
    subst (λ z. IsPermutation (holds y ++ flat_map holds ys) (flat_map holds ys ++ holds z)) same (IsPermutation-append_comm (holds y) (flat_map holds ys))
remove-holds holds (y ∷ ys) (suc place) x found =
    rw append_assoc (IsPermutation-append_right (holds y) (flat_map holds ys) (flat_map holds (remove ys place) ++ holds x) (remove-holds holds ys place x found))

-- what each party holds, one after the other
each-party : (parties : List Party) → flat_map (λ p. party_hold p ∷ []) parties ≡ map party_hold parties
each-party [] = refl
each-party (p ∷ parties) = ap (λ (holds : List Hold). party_hold p ∷ holds) (each-party parties)

module _ (airport : Airport) (state : State) where
  -- a flight put in adds its holds to those of the others
  pub with_flight-holds : (x : Flight) → IsPermutation (holds_in airport state ++ flight_holds airport x) (holds_in airport (with_flight x state))
  with_flight-holds x =
      rw append_assoc (IsPermutation-append_right (map party_hold state.parties) (flights_hold airport state.flights ++ flight_holds airport x) (flights_hold airport (flights_with x state.flights))
      (put_in-holds (λ f. f.name) (flight_holds airport) x state.flights))

  -- and a party its own
  pub with_party-holds : (x : Party) → IsPermutation (holds_in airport state ++ party_hold x ∷ []) (holds_in airport (with_party x state))
  with_party-holds x =
      let parties = map party_hold state.parties in
      let flights = flights_hold airport state.flights in
      let own = party_hold x ∷ [] in
      let more : IsPermutation (parties ++ own) (map party_hold (parties_with x state.parties)) =
      rw (each-party state.parties, each-party (parties_with x state.parties)) at (put_in-holds (λ p. p.name) (λ p. party_hold p ∷ []) x state.parties) in
      IsPermutation-trans ((parties ++ flights) ++ own) ((parties ++ own) ++ flights) (map party_hold (parties_with x state.parties) ++ flights)
      (rw append_assoc (rw append_assoc (IsPermutation-append_right parties (flights ++ own) (own ++ flights) (IsPermutation-append_comm flights own))))
      (IsPermutation-append_left flights (parties ++ own) (map party_hold (parties_with x state.parties)) more)

  -- the flight at a place, put back, adds its holds again
  pub flight-back : (place : ℕ) (x : Flight) → slice_get state.flights place ≡ Some x
      → IsPermutation (holds_in airport (record state { flights = remove state.flights place }) ++ flight_holds airport x) (holds_in airport state)
  flight-back place x found =
      rw append_assoc (IsPermutation-append_right (map party_hold state.parties) (flights_hold airport (remove state.flights place) ++ flight_holds airport x) (flights_hold airport state.flights)
      (IsPermutation-sym (flights_hold airport state.flights) (flights_hold airport (remove state.flights place) ++ flight_holds airport x) (remove-holds (flight_holds airport) state.flights place x found)))
