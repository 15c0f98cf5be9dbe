-- What fits an airport: a ledger with none lifted, one with a lifted flight, and what they become after each call.
use Rattle.std.proofs.Common.{◌≡◌, ℕ, ◌+◌, ◌<◌, false, List, [], ◌∷◌, ◌++◌, length, IsFalse, Option, Some, None, refl, sym, ◌∙◌, ap, subst, arith}
use Rattle.std.specs.Prelude.{remove, slice_get, IsSome, IfSome, IsSomeAnd}
use Rattle.std.specs.Option.{is_some, option_and_then}
use Rattle.std.specs.List.Sorted.{IsPermutation}
use Rattle.std.proofs.lemmas.Bool.{or_parts, or_from}
use Rattle.std.proofs.lemmas.Option.{get_or_from_slice_get, slice_get_within}
use Rattle.std.proofs.lemmas.List.Edits.{length-remove}
use Rattle.taxi_base.specs.declared.numbers.Segment.{Segment}
use Rattle.taxi_base.specs.declared.rows.Step.{Step}
use Rattle.taxi_base.specs.declared.answers.Request.{Request}
use Rattle.taxi_base.specs.declared.answers.Flight.{Flight}
use Rattle.taxi_base.specs.declared.answers.Party.{Party}
use Rattle.taxi_base.specs.Airport.{Airport}
use Rattle.taxi_base.specs.Windows.{Hold, is_free}
use Rattle.taxi_base.specs.Walks.{IsFeasibleWalk, conditions_among}
use Rattle.taxi_base.specs.State.{State, holder_count, has_holder, flight_named, party_named, flights_with, without, with_flight, with_party, with_route, flight_holds, party_hold, holds_in, conditions_of, IsFeasibleHold, IsFeasibleState}
use Rattle.taxi_base.specs.Faults.{conditions_in}
use Rattle.taxi_base.proofs.StateLaws.{IsFeasibleState-with_flight, IsFeasibleState-with_party, IsFeasibleState-without}
use Rattle.taxi_base.proofs.NameLaws.{none_left}
use Rattle.taxi_base.proofs.NamedLists.{find-named}
use Rattle.taxi_base.proofs.WindowLaws.{AreWindows-same}
use Rattle.window_store.specs.Store.{Store, list_at, spans_at}
use Rattle.window_store.specs.Stands.{ListStandsFor, StandsFor, HasRoomFor, route_holds}
use Rattle.window_store.specs.Kept.{KeepsNodes}
use Rattle.commitments.specs.Book.{Book, without_lifted, remaining, lifted_flight, routes_of, Fits}
use Rattle.holder_lists.specs.Places.{IsFlightPlace, IsPartyPlace}
use Rattle.commitments.proofs.SameHolds.{StandsFor-permutation, with_flight-holds, with_party-holds, flight-back}
use Rattle.commitments.proofs.Routes.{without-flight, others-of-flight, without-party, others-of-party}

-- ---- none lifted

-- the store of a ledger with none lifted stands for what all holders hold
pub stands-unlifted : (airport : Airport) (book : Book) → Fits airport book → book.lifted ≡ None
    → StandsFor airport.conflicts airport.horizon (holds_in airport book.state) book.store
stands-unlifted airport book fits unlifted =
    subst (λ (lifted : Option (List ℕ)). StandsFor airport.conflicts airport.horizon (holds_in airport (without_lifted lifted book.state)) book.store) unlifted fits.stands

-- a ledger with none lifted fits where its state is feasible and its store stands for what all hold
pub fits-unlifted : (airport : Airport) (book : Book) → book.lifted ≡ None
    → IsFeasibleState airport book.state → length book.store.lists ≡ length airport.segments → book.store.horizon ≡ airport.horizon
    → StandsFor airport.conflicts airport.horizon (holds_in airport book.state) book.store → Fits airport book
fits-unlifted airport book unlifted feasible lists horizon stands = record {
  feasible = feasible;
  lists = lists;
  horizon = horizon;
  stands = subst (λ (o : Option (List ℕ)). StandsFor airport.conflicts airport.horizon (holds_in airport (without_lifted o book.state)) book.store) (sym unlifted) stands;
  lifted = subst (λ (o : Option (List ℕ)). IfSome o (λ name. IsSomeAnd (flight_named name book.state.flights) (λ flight. HasRoomFor airport.conflicts flight.steps book.store))) (sym unlifted) tt;
}

-- ---- one lifted

some-and : (P : Flight → Type 0) (o : Option Flight) → IsSomeAnd o P → IsSome o
some-and P None h = absurd h
some-and P (Some x) h = refl

module _ (airport : Airport) (book : Book) (name : List ℕ) (fits : Fits airport book) (lifted : book.lifted ≡ Some name) where
  there : IsSomeAnd (flight_named name book.state.flights) (λ flight. HasRoomFor airport.conflicts flight.steps book.store)
  there =
      subst (λ (o : Option (List ℕ)). IfSome o (λ name. IsSomeAnd (flight_named name book.state.flights) (λ flight. HasRoomFor airport.conflicts flight.steps book.store)))
      lifted fits.lifted

  -- the lifted flight is in force
  pub lifted-in_force : IsSome (flight_named name book.state.flights)
  lifted-in_force = some-and (λ flight. HasRoomFor airport.conflicts flight.steps book.store) (flight_named name book.state.flights) there

  -- the store stands for what the others hold
  pub lifted-stands : StandsFor airport.conflicts airport.horizon (holds_in airport (without name book.state)) book.store
  lifted-stands = subst (λ (o : Option (List ℕ)). StandsFor airport.conflicts airport.horizon (holds_in airport (without_lifted o book.state)) book.store) lifted fits.stands

  module _ (x : Flight) (found : flight_named name book.state.flights ≡ Some x) where
    pub lifted-flight : lifted_flight book ≡ Some x
    lifted-flight = ap (option_and_then (λ (n : List ℕ). flight_named n book.state.flights)) lifted ∙ found

    -- there is room for its steps
    pub lifted-room : HasRoomFor airport.conflicts x.steps book.store
    lifted-room = rw found at there

    -- a walk of it among the others is one among what the store stands for
    pub lifted-walk : (steps : List Step) → IsFeasibleWalk (conditions_of airport book.state x) steps
        → (holds : List Hold) × StandsFor airport.conflicts airport.horizon holds book.store × IsFeasibleWalk (conditions_among airport x.class holds) steps
    lifted-walk steps walk = (
      holds_in airport (without name book.state),
      lifted-stands,
      subst (λ (n : List ℕ). IsFeasibleWalk (conditions_in airport x.class (without n book.state)) steps) (find-named (λ (f : Flight). f.name) name book.state.flights x found) walk,
    )

-- ---- the same holders

-- two ledgers that fit with the same holders, the same of them lifted
module _ (airport : Airport) (a b : Book) (fits_a : Fits airport a) (fits_b : Fits airport b) (state : a.state ≡ b.state) (lifted : a.lifted ≡ b.lifted)
    (segment : Segment) (low : segment.0 < length airport.segments) where
  -- each list of the first stands for what the second's holders hold
  first : ListStandsFor airport.conflicts airport.horizon (holds_in airport (remaining b)) segment (list_at a.store segment)
  first =
      subst (λ (o : Option (List ℕ)). ListStandsFor airport.conflicts airport.horizon (holds_in airport (without_lifted o b.state)) segment (list_at a.store segment)) lifted
      (subst (λ (s : State). ListStandsFor airport.conflicts airport.horizon (holds_in airport (without_lifted a.lifted s)) segment (list_at a.store segment)) state
      (fits_a.stands segment (rw fits_a.lists low)))

  second : ListStandsFor airport.conflicts airport.horizon (holds_in airport (remaining b)) segment (list_at b.store segment)
  second = fits_b.stands segment (rw fits_b.lists low)

  pub same-windows : spans_at a.store segment ≡ spans_at b.store segment
  same-windows =
      AreWindows-same (is_free airport.conflicts airport.horizon (holds_in airport (remaining b)) segment) (spans_at a.store segment) (spans_at b.store segment) first.windows second.windows

  pub same-numbers : (list_at a.store segment).held ≡ (list_at b.store segment).held
  same-numbers = first.number ∙ sym second.number

-- ---- a flight or party, and its place

pub some-there : {X : Type 0} (o : Option X) → IsSome o → (x : X) × (o ≡ Some x)
some-there None there = absurd (cc there)
some-there (Some x) there = (x, refl)

-- where a flight of a name is in force, it has a place
pub place-some : (flights : List Flight) (name : List ℕ) (place : Option ℕ) → IsFlightPlace flights name place → IsSome (flight_named name flights) → IsSome place
place-some flights name None is_place there = absurd (cc (rw is_place.none at there))
place-some flights name (Some k) is_place there = refl

-- it is on a walk among the others
pub walk-at : (airport : Airport) (state : State) → IsFeasibleState airport state → (place : ℕ) (x : Flight) → slice_get state.flights place ≡ Some x
    → IsFeasibleWalk (conditions_of airport state x) x.steps
walk-at airport state feasible place x found =
    subst (λ (f : Flight). IsFeasibleWalk (conditions_of airport state f) f.steps) (get_or_from_slice_get state.flights place x x found)
    (feasible.walks place x (slice_get_within state.flights place x found))

-- where no holder has a name, no flight has it
none-is : {X : Type 0} (o : Option X) → IsFalse (is_some o) → o ≡ None
none-is None h = refl
none-is (Some x) h = absurd (cc h)

pub no-flight : (name : List ℕ) (state : State) → has_holder name state ≡ false → flight_named name state.flights ≡ None
no-flight name state none = none-is (flight_named name state.flights) (or_parts _ _ none).1

-- ---- after a call

module _ (airport : Airport) (book : Book) (fits : Fits airport book) (store : Store) (nodes : KeepsNodes book.store store) (room party_room : ℕ) where
  abbrev after : Option (List ℕ) → State → Book
  after lifted state = record { state = state; lifted = lifted; room = room; party_room = party_room; store = store }

  fits-after : (state : State) (lifted : Option (List ℕ)) → lifted ≡ None → IsFeasibleState airport state → StandsFor airport.conflicts airport.horizon (holds_in airport state) store
      → Fits airport (after lifted state)
  fits-after state lifted unlifted feasible stands = fits-unlifted airport (after lifted state) unlifted feasible (nodes.lists ∙ fits.lists) (nodes.horizon ∙ fits.horizon) stands

  -- after a commit
  pub fits-commit : (x : Flight) → book.lifted ≡ None → has_holder x.name book.state ≡ false → holder_count book.state < 4096
      → IsFeasibleWalk (conditions_in airport x.class book.state) x.steps
      → StandsFor airport.conflicts airport.horizon (holds_in airport book.state ++ flight_holds airport x) store
      → Fits airport (after book.lifted (with_flight x book.state))
  fits-commit x unlifted absent few walk stands =
      fits-after (with_flight x book.state) book.lifted unlifted (IsFeasibleState-with_flight airport x book.state fits.feasible few absent walk)
      (StandsFor-permutation airport.conflicts airport.horizon (holds_in airport book.state ++ flight_holds airport x) (holds_in airport (with_flight x book.state)) store
      (with_flight-holds airport book.state x) stands)

  -- after a party is placed
  pub fits-place : (x : Party) → book.lifted ≡ None → has_holder x.name book.state ≡ false → holder_count book.state < 4096
      → IsFeasibleHold airport book.state (party_hold x)
      → StandsFor airport.conflicts airport.horizon (holds_in airport book.state ++ party_hold x ∷ []) store
      → Fits airport (after book.lifted (with_party x book.state))
  fits-place x unlifted absent few shut stands =
      fits-after (with_party x book.state) book.lifted unlifted (IsFeasibleState-with_party airport x book.state fits.feasible few absent shut)
      (StandsFor-permutation airport.conflicts airport.horizon (holds_in airport book.state ++ party_hold x ∷ []) (holds_in airport (with_party x book.state)) store
      (with_party-holds airport book.state x) stands)

  module _ (name : List ℕ) (place : ℕ) where
    -- after a party is removed
    module _ (at : IsPartyPlace book.state.parties name (Some place)) (x : Party) (found : party_named name book.state.parties ≡ Some x) where
      pub without-removed : record book.state { parties = remove book.state.parties place } ≡ without name book.state
      without-removed =
          without-party airport book.state fits.feasible name place at x (at.found ∙ found) (find-named (λ (p : Party). p.name) name book.state.parties x found)

      pub fits-remove : book.lifted ≡ None
          → StandsFor airport.conflicts airport.horizon (route_holds airport.horizon (remove (routes_of airport book.state) place)) store
          → Fits airport (after book.lifted (record book.state { parties = remove book.state.parties place }))
      fits-remove unlifted stands =
          rw without-removed
          (fits-after (without name book.state) book.lifted unlifted (IsFeasibleState-without airport name book.state fits.feasible)
          (rw (others-of-party airport book.state fits.feasible name place at x (at.found ∙ found) (find-named (λ (p : Party). p.name) name book.state.parties x found)) at stands))

    module _ (at : IsFlightPlace book.state.flights name (Some place)) (x : Flight) (found : flight_named name book.state.flights ≡ Some x) where
      named : x.name ≡ name
      named = find-named (λ (f : Flight). f.name) name book.state.flights x found

      pub without-cancelled : record book.state { flights = remove book.state.flights place } ≡ without name book.state
      without-cancelled = without-flight airport book.state fits.feasible name place at x (at.found ∙ found) named

      others : route_holds airport.horizon (remove (routes_of airport book.state) (length book.state.parties + place)) ≡ holds_in airport (without name book.state)
      others = others-of-flight airport book.state fits.feasible name place at x (at.found ∙ found) named

      -- after a cancel
      pub fits-cancel : book.lifted ≡ None
          → StandsFor airport.conflicts airport.horizon (route_holds airport.horizon (remove (routes_of airport book.state) (length book.state.parties + place))) store
          → Fits airport (after book.lifted (record book.state { flights = remove book.state.flights place }))
      fits-cancel unlifted stands =
          rw without-cancelled
          (fits-after (without name book.state) book.lifted unlifted (IsFeasibleState-without airport name book.state fits.feasible) (rw others at stands))

      -- after a lift
      pub fits-lift : StandsFor airport.conflicts airport.horizon (route_holds airport.horizon (remove (routes_of airport book.state) (length book.state.parties + place))) store
          → HasRoomFor airport.conflicts x.steps store → Fits airport (after (Some name) book.state)
      fits-lift stands has_room = record {
        feasible = fits.feasible;
        lists = nodes.lists ∙ fits.lists;
        horizon = nodes.horizon ∙ fits.horizon;
        stands = rw others at stands;
        lifted = rw found has_room;
      }

      -- after the lifted flight is lowered
      pub fits-lower : StandsFor airport.conflicts airport.horizon (holds_in airport (without name book.state) ++ flight_holds airport x) store
          → Fits airport (after None book.state)
      fits-lower stands =
          fits-after book.state None refl fits.feasible
          (StandsFor-permutation airport.conflicts airport.horizon (holds_in airport (without name book.state) ++ flight_holds airport x) (holds_in airport book.state) store
          (subst (λ (s : State). IsPermutation (holds_in airport s ++ flight_holds airport x) (holds_in airport book.state)) without-cancelled (flight-back airport book.state place x (at.found ∙ found))) stands)

      -- after it is put back on another route
      module _ (request : Request) (steps : List Step) where
        abbrev on_another : State
        on_another = record book.state { flights = flights_with (record x { request = request; steps = steps }) (remove book.state.flights place) }

        pub replaced : on_another ≡ with_route x request steps book.state
        replaced =
            ap (with_flight (record x { request = request; steps = steps })) without-cancelled
            ∙ ap (λ (n : List ℕ). with_flight (record x { request = request; steps = steps }) (without n book.state)) (sym named)

        pub fits-replace : IsFeasibleWalk (conditions_of airport book.state x) steps
            → StandsFor airport.conflicts airport.horizon (holds_in airport (without name book.state) ++ flight_holds airport (record x { steps = steps })) store
            → Fits airport (after None on_another)
        fits-replace walk stands =
            let y : Flight = record x { request = request; steps = steps } in
            let fewer : holder_count (without name book.state) < 4096 = omega (
              arith,
              fits.feasible.few,
              ap holder_count (sym without-cancelled),
              length-remove book.state.flights place at.here,
            ) in
            rw (ap (with_flight y) without-cancelled)
            (fits-after (with_flight y (without name book.state)) None refl
            (IsFeasibleState-with_flight airport y (without name book.state) (IsFeasibleState-without airport name book.state fits.feasible) fewer
            (rw named (or_from _ _ (none_left (λ (p : Party). p.name) name book.state.parties) (none_left (λ (f : Flight). f.name) name book.state.flights)))
            (subst (λ (n : List ℕ). IsFeasibleWalk (conditions_in airport x.class (without n book.state)) steps) named walk))
            (StandsFor-permutation airport.conflicts airport.horizon (holds_in airport (without name book.state) ++ flight_holds airport y)
            (holds_in airport (with_flight y (without name book.state))) store (with_flight-holds airport (without name book.state) y) stands))
