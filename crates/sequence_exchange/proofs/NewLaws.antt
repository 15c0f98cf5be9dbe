-- New flights: those that are not yet served stay new while others are served, and what was served is taken out by its name.
use Rattle.std.proofs.Common.{◌≡◌, ◌≢◌, ◌∙◌, ℕ, ◌+◌, ◌≤◌, zero, suc, List, [], ◌∷◌, take, refl, sym, ap, subst, arith, IsFalse, IsTrue, Option, Some, None, is_some, inl, inr}
use Rattle.std.specs.Prelude.{All, bytes_eq, IfSome, IfNone}
use Rattle.std.specs.Cmp.Lexicographic.{bytes_decides}
use Rattle.std.proofs.lemmas.Bool.{cases_Bool, or_parts, or_from, both_ways}
use Rattle.std.proofs.lemmas.List.Elements.{All-head, All-tail, All-cons, All-weaker}
use Rattle.taxi_base.specs.declared.answers.Flight.{Flight}
use Rattle.taxi_base.specs.Airport.{Airport}
use Rattle.taxi_base.specs.State.{State, name_precedes, named, left_out, put_in, flight_named, flights_with, without, with_flight, has_holder, holder_count}
use Rattle.taxi_base.proofs.NameLaws.{differ-turned, All-put_in, length-put_in}
use Rattle.taxi_base.proofs.NamedLists as lists
use Rattle.taxi_base.proofs.FlightNames.{differ}
use Rattle.taxi_base.proofs.StateLaws.{no_holder-flights}
use Rattle.replies.specs.declared.entries.Entry.{Entry}
use Rattle.replies.specs.declared.entries.Entry.TheVariants as entry
use Rattle.replies.specs.declared.wish.Wish.{Wish}
use Rattle.replies.specs.Routed.{routed_flight}
use Rattle.replies.specs.Batches.{exchanged, EndsAt, settled, exchanging}
use Rattle.replies.proofs.FlightLaws.{without-none}
use Rattle.sequence_exchange.specs.Serving.{AreNew}
use Rattle.sequence_exchange.proofs.ServedLaws.{after_entry}
use Rattle.sequence_exchange.proofs.OrderLaws.{exchanged-All}

-- ---- by names

pub differ-not_same : (a b : List ℕ) → IsFalse (bytes_eq a b) → a ≢ b
differ-not_same a b other = λ e. both_ways _ other ((bytes_decides a b).1 e)

module _ {X : Type 0} (name_of : X → List ℕ) where
  none-found : (name : List ℕ) (xs : List X) → All (λ x. IsFalse (bytes_eq (name_of x) name)) xs → IsFalse (is_some (named name_of name xs))
  none-found name [] others = refl
  none-found name (x ∷ xs) others =
      rw (All-head (λ y. IsFalse (bytes_eq (name_of y) name)) x xs others) (none-found name xs (All-tail (λ y. IsFalse (bytes_eq (name_of y) name)) x xs others))

  -- what is put in is found, and left out again
  module _ (x : X) where
    itself : IsTrue (bytes_eq (name_of x) (name_of x))
    itself = (bytes_decides (name_of x) (name_of x)).1 refl

    put_in-found : (xs : List X) → IsTrue (is_some (named name_of (name_of x) (put_in name_of x xs)))
    put_in-found [] = rw itself refl
    put_in-found (y ∷ ys) =
        elim (cases_Bool (name_precedes (name_of x) (name_of y))) [
          | inl before ↦ rw (before, itself) refl
          | inr after ↦ elim (cases_Bool (bytes_eq (name_of y) (name_of x))) [
            | inl here ↦ rw (after, here) refl
            | inr other ↦ rw (after, other) (put_in-found ys)
          ]
        ]

    pub put_in-left_out : (xs : List X) → All (λ y. name_of y ≢ name_of x) xs → left_out name_of (name_of x) (put_in name_of x xs) ≡ xs
    put_in-left_out [] others = rw itself refl
    put_in-left_out (y ∷ ys) others =
        let other : IsFalse (bytes_eq (name_of y) (name_of x)) = differ (name_of y) (name_of x) (All-head (λ z. name_of z ≢ name_of x) y ys others) in
        let rest : All (λ z. name_of z ≢ name_of x) ys = All-tail (λ z. name_of z ≢ name_of x) y ys others in
        elim (cases_Bool (name_precedes (name_of x) (name_of y))) [
          | inl before ↦ rw (before, itself) (lists.absent-without name_of (name_of x) (y ∷ ys) others)
          | inr after ↦ rw (after, other) (ap (λ (zs : List X). y ∷ zs) (put_in-left_out ys rest))
        ]

-- ---- one more flight

module _ (flight : Flight) (state : State) where
  -- no other name is taken by it
  pub with_flight-absent : (name : List ℕ) → IsFalse (bytes_eq flight.name name) → IsFalse (has_holder name state) → IsFalse (has_holder name (with_flight flight state))
  with_flight-absent name other none =
      or_from _ _ (or_parts _ _ none).0
      (none-found (λ (f : Flight). f.name) name (flights_with flight state.flights)
      (All-put_in (λ (f : Flight). f.name) (λ f. IsFalse (bytes_eq f.name name)) flight other state.flights (no_holder-flights name state none)))

  -- it is in force, and without it the state is as before
  pub with_flight-there : IsTrue (is_some (flight_named flight.name (flights_with flight state.flights)))
  with_flight-there = put_in-found (λ (f : Flight). f.name) flight state.flights

  pub with_flight-without : IsFalse (has_holder flight.name state) → without flight.name (with_flight flight state) ≡ state
  with_flight-without none =
      let flights = put_in-left_out (λ (f : Flight). f.name) flight state.flights
      (All-weaker (λ f. IsFalse (bytes_eq f.name flight.name)) (λ f. f.name ≢ flight.name) (λ f other. differ-not_same f.name flight.name other) state.flights (no_holder-flights flight.name state none)) in
      let parties = ap (λ (s : State). s.parties) (without-none flight.name state none) in
      λ i. record { flights = flights i; parties = parties i }

  AreNew-with_flight : (rest : List Wish) → All (λ other. IsFalse (bytes_eq other.name flight.name)) rest → AreNew state rest → AreNew (with_flight flight state) rest
  AreNew-with_flight [] others new = tt
  AreNew-with_flight (wish ∷ rest) others new = (
    with_flight-absent wish.name (differ-turned wish.name flight.name (All-head (λ (o : Wish). IsFalse (bytes_eq o.name flight.name)) wish rest others)) new.0,
    new.1,
    AreNew-with_flight rest (All-tail (λ (o : Wish). IsFalse (bytes_eq o.name flight.name)) wish rest others) new.2,
  )

-- ---- while flights are served

module _ (state : State) (wish : Wish) where
  pub AreNew-after : (told : Entry) (rest : List Wish) → AreNew state (wish ∷ rest) → AreNew (after_entry state wish told) rest
  AreNew-after (entry.Route second steps labels) rest new = AreNew-with_flight (routed_flight wish.name wish.class wish.request steps) state rest new.1 new.2
  AreNew-after (entry.NoRoute labels) rest new = new.2
  AreNew-after entry.Dropped rest new = new.2

  pub count-after : (told : Entry) → holder_count (after_entry state wish told) ≤ holder_count state + 1
  count-after (entry.Route second steps labels) =
      omega (arith, length-put_in (λ (f : Flight). f.name) (routed_flight wish.name wish.class wish.request steps) state.flights)
  count-after (entry.NoRoute labels) = omega arith
  count-after entry.Dropped = omega arith

  -- what was in force before is in force once the flight of the name is taken out
  pub taken_out : (told : Entry) (old new : State) (o : Option Flight) → old ≡ after_entry state wish told → IsFalse (has_holder wish.name state) → o ≡ flight_named wish.name old.flights
      → IfSome o (λ _. new ≡ without wish.name old) → IfNone o (new ≡ old) → new ≡ state
  taken_out (entry.Route second steps labels) old new None is none found left kept =
      let flight : Flight = routed_flight wish.name wish.class wish.request steps in
      let there : IsTrue (is_some (flight_named wish.name old.flights)) = subst (λ (s : State). IsTrue (is_some (flight_named wish.name s.flights))) (sym is) (with_flight-there flight state) in
      absurd (cc (subst (λ (x : Option Flight). IsTrue (is_some x)) (sym found) there))
  taken_out (entry.Route second steps labels) old new (Some x) is none found left kept =
      left ∙ ap (without wish.name) is ∙ with_flight-without (routed_flight wish.name wish.class wish.request steps) state none
  taken_out (entry.NoRoute labels) old new None is none found left kept = kept ∙ is
  taken_out (entry.NoRoute labels) old new (Some x) is none found left kept = left ∙ ap (without wish.name) is ∙ without-none wish.name state none
  taken_out entry.Dropped old new None is none found left kept = kept ∙ is
  taken_out entry.Dropped old new (Some x) is none found left kept = left ∙ ap (without wish.name) is ∙ without-none wish.name state none

-- ---- in another order

pub AreNew-exchanged : (state : State) (k : ℕ) (wishes : List Wish) → AreNew state wishes → AreNew state (exchanged k wishes)
AreNew-exchanged state zero [] new = new
AreNew-exchanged state zero (a ∷ []) new = new
AreNew-exchanged state zero (a ∷ b ∷ later) new =
    let apart : IsFalse (bytes_eq a.name b.name) = differ-turned b.name a.name (All-head (λ (o : Wish). IsFalse (bytes_eq o.name a.name)) b later new.1) in (
      new.2.0,
      All-cons (λ (o : Wish). IsFalse (bytes_eq o.name b.name)) a later apart new.2.1,
      (new.0, All-tail (λ (o : Wish). IsFalse (bytes_eq o.name a.name)) b later new.1, new.2.2),
    )
AreNew-exchanged state (suc k) [] new = new
AreNew-exchanged state (suc k) (a ∷ later) new = (
  new.0,
  exchanged-All (λ (o : Wish). IsFalse (bytes_eq o.name a.name)) k later new.1,
  AreNew-exchanged state k later new.2,
)

-- ---- a part of them

All-taken : {X : Type 0} (P : X → Type 0) (k : ℕ) (xs : List X) → All P xs → All P (take k xs)
All-taken P zero xs all = λ j d low. absurd (omega (arith, low))
All-taken P (suc k) [] all = all
All-taken P (suc k) (x ∷ xs) all = All-cons P x (take k xs) (All-head P x xs all) (All-taken P k xs (All-tail P x xs all))

pub AreNew-take : (state : State) (k : ℕ) (wishes : List Wish) → AreNew state wishes → AreNew state (take k wishes)
AreNew-take state zero wishes new = tt
AreNew-take state (suc k) [] new = new
AreNew-take state (suc k) (wish ∷ wishes) new =
    (new.0, All-taken (λ (o : Wish). IsFalse (bytes_eq o.name wish.name)) k wishes new.1, AreNew-take state k wishes new.2)

-- ---- in the order at which the exchange ends

module _ (airport : Airport) (state : State) (wishes : List Wish) where
  pub AreNew-ends : (order last : List Wish) → EndsAt airport state wishes order last → AreNew state order → AreNew state last
  AreNew-ends order last (settled _ _) new = new
  AreNew-ends order last (exchanging _ _ k within cheaper tried later) new = AreNew-ends (exchanged k order) last later (AreNew-exchanged state k order new)
