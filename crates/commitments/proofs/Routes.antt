-- The holders of a state as routes: what they hold, what one of them is, and what is left without it.
use Rattle.std.proofs.Common.{◌≡◌, ◌≢◌, ℕ, zero, suc, ◌+◌, ◌-◌, ◌<◌, ◌≤◌, List, [], ◌∷◌, ◌++◌, length, map, get_or, Some, true, IsFalse, refl, sym, ap, ◌∙◌, subst, arith}
use Rattle.std.specs.Prelude.{All, bytes_eq, option_map, remove, slice_get}
use Rattle.std.specs.List.Sorted.{IsPermutation}
use Rattle.std.specs.Cmp.Lexicographic.{bytes_decides}
use Rattle.std.proofs.lemmas.Bool.{both_ways}
use Rattle.std.proofs.lemmas.List.{length-map}
use Rattle.std.proofs.lemmas.List.Concat.{flat_map-append}
use Rattle.std.proofs.lemmas.List.Edits.{remove-append_left, remove-append_right}
use Rattle.std.proofs.lemmas.List.Elements.{All-weaker}
use Rattle.std.proofs.lemmas.List.Folds.{flat_map-map}
use Rattle.std.proofs.lemmas.Option.{get_or_from_slice_get, slice_get-map, slice_get_within}
use Rattle.taxi_base.specs.declared.numbers.Segment.{Segment}
use Rattle.taxi_base.specs.declared.answers.Flight.{Flight}
use Rattle.taxi_base.specs.declared.answers.Party.{Party}
use Rattle.taxi_base.specs.Airport.{Airport, arc_of}
use Rattle.taxi_base.specs.Windows.{Hold, HeldRoute, holds_of}
use Rattle.taxi_base.specs.State.{State, without, flights_without, parties_without, party_hold, party_step, holds_in, IsFeasibleHold, IsFeasibleState}
use Rattle.taxi_base.proofs.NamedLists.{absent-without}
use Rattle.taxi_base.proofs.StateLaws.{party_step-holds, IsFeasibleState-without}
use Rattle.taxi_base.proofs.ListLaws.{remove-map}
use Rattle.window_store.specs.Store.{Store}
use Rattle.window_store.specs.Stands.{HasRoomFor, route_holds}
use Rattle.window_store.specs.Kept.{IsClearOf, KeepsWindows}
use Rattle.commitments.specs.Book.{route_of, party_route, routes_of}
use Rattle.holder_lists.specs.Places.{IsFlightPlace, IsPartyPlace}
use Rattle.commitments.proofs.SameHolds.{remove-holds}

-- ---- lists

pub there : {X : Type 0} (xs : List X) (k : ℕ) → k < length xs → (x : X) × (slice_get xs k ≡ Some x)
there [] k low = absurd (omega arith)
there (x ∷ xs) zero low = (x, refl)
there (x ∷ xs) (suc k) low = there xs k (omega arith)

pub slice_get-left : {X : Type 0} (xs ys : List X) (k : ℕ) → k < length xs → slice_get (xs ++ ys) k ≡ slice_get xs k
slice_get-left [] ys k low = absurd (omega arith)
slice_get-left (x ∷ xs) ys zero low = refl
slice_get-left (x ∷ xs) ys (suc k) low = slice_get-left xs ys k (omega arith)

pub slice_get-right : {X : Type 0} (xs ys : List X) (k : ℕ) → length xs ≤ k → slice_get (xs ++ ys) k ≡ slice_get ys (k - length xs)
slice_get-right [] ys k low = let e : k ≡ k - 0 = omega arith in ap (λ j. slice_get ys j) e
slice_get-right (x ∷ xs) ys zero low = absurd (omega arith)
slice_get-right (x ∷ xs) ys (suc k) low =
    let e : suc k - suc (length xs) ≡ k - length xs = omega arith in
    rw e (slice_get-right xs ys k (omega arith))

-- ---- one holder

module _ (airport : Airport) (state : State) where
  -- a party comes first, a flight behind all parties
  pub party-route : (number : ℕ) → number < length state.parties
      → (p : Party) × (slice_get state.parties number ≡ Some p) × (slice_get (routes_of airport state) number ≡ Some (party_route p))
  party-route number low =
      let one = there state.parties number low in (
        one.0,
        one.1,
        slice_get-left (map party_route state.parties) (map (route_of airport) state.flights) number (omega (arith, length-map state.parties party_route, low))
            ∙ slice_get-map party_route state.parties number ∙ ap (option_map party_route) one.1,
      )

  pub party-at : (number : ℕ) (p : Party) → slice_get state.parties number ≡ Some p → slice_get (routes_of airport state) number ≡ Some (party_route p)
  party-at number p found =
      let one = party-route number (slice_get_within state.parties number p found) in
      let same : one.0 ≡ p = cc (sym one.1 ∙ found) in
      one.2 ∙ ap (λ (q : Party). Some (party_route q)) same

  pub flight-route : (number : ℕ) → length state.parties ≤ number → (f : Flight) → slice_get state.flights (number - length state.parties) ≡ Some f
      → slice_get (routes_of airport state) number ≡ Some (route_of airport f)
  flight-route number low f found =
      slice_get-right (map party_route state.parties) (map (route_of airport) state.flights) number (omega (arith, length-map state.parties party_route, low))
      ∙ rw (length-map state.parties party_route) (slice_get-map (route_of airport) state.flights (number - length state.parties)) ∙ ap (option_map (route_of airport)) found

  pub flight-at : (parties place : ℕ) → parties ≡ length state.parties → (f : Flight) → slice_get state.flights place ≡ Some f
      → slice_get (routes_of airport state) (parties + place) ≡ Some (route_of airport f)
  flight-at parties place count f found =
      let e : parties + place - length state.parties ≡ place = omega (arith, count) in
      flight-route (parties + place) (omega (arith, count)) f (rw e found)

  party-left : (number : ℕ) → number < length state.parties → remove (routes_of airport state) number ≡ routes_of airport (record state { parties = remove state.parties number })
  party-left number low =
      remove-append_left (map party_route state.parties) (map (route_of airport) state.flights) number (omega (arith, length-map state.parties party_route, low))
      ∙ ap (λ (routes : List HeldRoute). routes ++ map (route_of airport) state.flights) (remove-map party_route state.parties number)

  flight-left : (place : ℕ) → remove (routes_of airport state) (length state.parties + place) ≡ routes_of airport (record state { flights = remove state.flights place })
  flight-left place =
      let e : length state.parties + place - length state.parties ≡ place = omega arith in
      remove-append_right (map party_route state.parties) (map (route_of airport) state.flights) (length state.parties) (length state.parties + place) (length-map state.parties party_route) (omega arith)
      ∙ rw e (ap (λ (routes : List HeldRoute). map party_route state.parties ++ routes) (remove-map (route_of airport) state.flights place))

-- ---- what they hold

-- the parties are over by the horizon
abbrev pub AreOver : Airport → List Party → Type 0
AreOver airport parties = All (λ p. p.until ≤ airport.horizon) parties

pub parties-over : (airport : Airport) (state : State) → IsFeasibleState airport state → AreOver airport state.parties
parties-over airport state feasible =
    All-weaker (λ p. IsFeasibleHold airport (without p.name state) (party_hold p)) (λ p. p.until ≤ airport.horizon) (λ p shut. shut.in_time) state.parties feasible.shut

parties-hold : (airport : Airport) (parties : List Party) → AreOver airport parties → route_holds airport.horizon (map party_route parties) ≡ map party_hold parties
parties-hold airport [] over = refl
parties-hold airport (p ∷ parties) over =
    rw (party_step-holds airport.horizon p (over 0 p (omega arith)))
    (ap (λ (holds : List Hold). party_hold p ∷ holds) (parties-hold airport parties (λ k d low. over (suc k) d (omega arith))))

pub routes-hold : (airport : Airport) (state : State) → AreOver airport state.parties → route_holds airport.horizon (routes_of airport state) ≡ holds_in airport state
routes-hold airport state over =
    flat_map-append (λ (r : HeldRoute). holds_of airport.horizon r.clearance r.steps) (map party_route state.parties) (map (route_of airport) state.flights)
    ∙ ap (λ (holds : List Hold). holds ++ route_holds airport.horizon (map (route_of airport) state.flights)) (parties-hold airport state.parties over)
    ∙ ap (λ (holds : List Hold). map party_hold state.parties ++ holds) (flat_map-map (λ (r : HeldRoute). holds_of airport.horizon r.clearance r.steps) (route_of airport) state.flights)

-- the holder of a number, taken out, leaves the holds of the others
pub route-left : (airport : Airport) (state : State) → AreOver airport state.parties → (number : ℕ) (r : HeldRoute) → slice_get (routes_of airport state) number ≡ Some r
    → IsPermutation (holds_in airport state) (route_holds airport.horizon (remove (routes_of airport state) number) ++ holds_of airport.horizon r.clearance r.steps)
route-left airport state over number r found =
    subst (λ (holds : List Hold). IsPermutation holds (route_holds airport.horizon (remove (routes_of airport state) number) ++ holds_of airport.horizon r.clearance r.steps)) (routes-hold airport state over)
    (remove-holds (λ (r : HeldRoute). holds_of airport.horizon r.clearance r.steps) (routes_of airport state) number r found)

-- ---- the others

module _ (airport : Airport) (state : State) (feasible : IsFeasibleState airport state) (name : List ℕ) where
  -- the state without a flight: no party has its name
  module _ (place : ℕ) (at : IsFlightPlace state.flights name (Some place)) (x : Flight) (found : slice_get state.flights place ≡ Some x) (is_named : x.name ≡ name) where
    other-parties : All (λ p. p.name ≢ name) state.parties
    other-parties k d low e =
        let apart : IsFalse (bytes_eq (get_or state.flights place x).name (get_or state.parties k d).name) = feasible.differ k d low place x (slice_get_within state.flights place x found) in
        both_ways _ apart ((bytes_decides (get_or state.flights place x).name (get_or state.parties k d).name).1
        (ap (λ (f : Flight). f.name) (get_or_from_slice_get state.flights place x x found) ∙ is_named ∙ sym e))

    pub without-flight : record state { flights = remove state.flights place } ≡ without name state
    without-flight =
        ap (λ (flights : List Flight). record state { flights = flights }) at.others
        ∙ ap (λ (parties : List Party). record { flights = flights_without name state.flights; parties = parties }) (sym (absent-without (λ (p : Party). p.name) name state.parties other-parties))

    pub others-of-flight : route_holds airport.horizon (remove (routes_of airport state) (length state.parties + place)) ≡ holds_in airport (without name state)
    others-of-flight =
        ap (route_holds airport.horizon) (flight-left airport state place ∙ ap (routes_of airport) without-flight)
        ∙ routes-hold airport (without name state) (parties-over airport (without name state) (IsFeasibleState-without airport name state feasible))

  -- and without a party
  module _ (place : ℕ) (at : IsPartyPlace state.parties name (Some place)) (x : Party) (found : slice_get state.parties place ≡ Some x) (is_named : x.name ≡ name) where
    other-flights : All (λ f. f.name ≢ name) state.flights
    other-flights k d low e =
        let apart : IsFalse (bytes_eq (get_or state.flights k d).name (get_or state.parties place x).name) = feasible.differ place x (slice_get_within state.parties place x found) k d low in
        both_ways _ apart ((bytes_decides (get_or state.flights k d).name (get_or state.parties place x).name).1
        (e ∙ sym is_named ∙ sym (ap (λ (p : Party). p.name) (get_or_from_slice_get state.parties place x x found))))

    pub without-party : record state { parties = remove state.parties place } ≡ without name state
    without-party =
        ap (λ (parties : List Party). record state { parties = parties }) at.others
        ∙ ap (λ (flights : List Flight). record { flights = flights; parties = parties_without name state.parties }) (sym (absent-without (λ (f : Flight). f.name) name state.flights other-flights))

    pub others-of-party : route_holds airport.horizon (remove (routes_of airport state) place) ≡ holds_in airport (without name state)
    others-of-party =
        ap (route_holds airport.horizon) (party-left airport state place (slice_get_within state.parties place x found) ∙ ap (routes_of airport) without-party)
        ∙ routes-hold airport (without name state) (parties-over airport (without name state) (IsFeasibleState-without airport name state feasible))

-- ---- the room and the windows of a party

-- room for one step on a segment's forward arc is room for any party there
pub party-prepared : (airport : Airport) (segment : Segment) (store : Store) (enter leave : ℕ)
    → HasRoomFor airport.conflicts (record { arc = arc_of segment true; enter = enter; leave = leave } ∷ []) store
    → (party : Party) → party.segment ≡ segment → HasRoomFor airport.conflicts (party_step party ∷ []) store
party-prepared airport segment store enter leave room party same =
    subst (λ (s : Segment). HasRoomFor airport.conflicts (record { arc = arc_of s true; enter = enter; leave = leave } ∷ []) store) (sym same) room

-- a window that stands against what a party's route holds stands against what the party holds
pub party-kept : (airport : Airport) (state : State) → IsFeasibleState airport state → (place : ℕ) (x : Party) → slice_get state.parties place ≡ Some x → (old new : Store)
    → KeepsWindows IsClearOf airport.conflicts (holds_of airport.horizon 0 (party_step x ∷ [])) old new → KeepsWindows IsClearOf airport.conflicts (party_hold x ∷ []) old new
party-kept airport state feasible place x found old new kept =
    let over : x.until ≤ airport.horizon =
    subst (λ (p : Party). p.until ≤ airport.horizon) (get_or_from_slice_get state.parties place x x found)
    (parties-over airport state feasible place x (slice_get_within state.parties place x found)) in
    let own : holds_of airport.horizon 0 (party_step x ∷ []) ≡ party_hold x ∷ [] = ap (λ (h : Hold). h ∷ []) (party_step-holds airport.horizon x over) in
    subst (λ (holds : List Hold). KeepsWindows IsClearOf airport.conflicts holds old new) own kept
