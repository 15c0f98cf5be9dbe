-- What is held with a flight or a work party more, and without it.
use Rattle.std.proofs.Common.{◌≡◌, ◌∙◌, ℕ, ◌+◌, ◌<◌, List, [], ◌∷◌, ◌++◌, length, get_or, map, set, IsTrue, Option, Some, None, refl, sym, ap, subst, arith}
use Rattle.std.specs.Prelude.{Ok, All, flat_map, option_copied}
use Rattle.std.specs.Borrow.{Bor}
use Rattle.taxi_base.specs.declared.numbers.Segment.{Segment}
use Rattle.taxi_base.specs.declared.rows.Span.{Span}
use Rattle.taxi_base.specs.declared.rows.Step.{Step}
use Rattle.taxi_base.specs.declared.answers.Flight.{Flight}
use Rattle.taxi_base.specs.declared.answers.Party.{Party}
use Rattle.taxi_base.specs.declared.answers.Request.{Request}
use Rattle.taxi_base.specs.Airport.{Airport, layout_of, segment_of, arc_exists, clearance_of}
use Rattle.taxi_base.specs.Windows.{Hold, holds_of}
use Rattle.taxi_base.specs.State.{State, flight_named, party_named, parties_without, with_flight, with_party, with_route, without, flight_holds, flights_hold, party_hold, holds_in}
use Rattle.taxi_base.proofs.AirportLaws.{arc_exists-segment}
use Rattle.held_spans.specs.declared.spans.HeldSpans.{HeldSpans}
use Rattle.held_spans.specs.Spans.{weight_on, AreSpansOf, NamedHold, held_by, weight_by, AreHeldBy}
use Rattle.held_spans.proofs.SpanLaws.{weight-unnamed, AreSpansOf-held, named-cons, named-append, AreHeldBy-same}
use Rattle.held_spans.proofs.AloneLaws.{unnamed-held_by}
use Rattle.checked_state.specs.declared.flights.HeldFlights.{HeldFlights}
use Rattle.checked_state.specs.Order.{AreInOrder, ArePartiesInOrder, IsPlace}
use Rattle.checked_state.specs.Flights.{flight_held, party_held, named_in, HasSpansOf}
use Rattle.checked_state.proofs.PlaceLaws.{named-at, set-here, left-none, all-put_in, all-left_out}

-- ---- what holders weigh

module _ (airport : Airport) (s : Segment) (weight : Span × List ℕ → ℕ) where
  abbrev one : Flight → ℕ
  one f = weight_by weight s (flight_held airport f)

  abbrev all : List Flight → ℕ
  all flights = weight_by weight s (flat_map (flight_held airport) flights)

  all-cons : (f : Flight) (flights : List Flight) → all (f ∷ flights) ≡ one f + all flights
  all-cons f flights = named-append weight s (flight_held airport f) (flat_map (flight_held airport) flights)

  abbrev one_shut : Party → ℕ
  one_shut p = weight_by weight s (party_held p ∷ [])

  abbrev all_shut : List Party → ℕ
  all_shut parties = weight_by weight s (map party_held parties)

  all_shut-cons : (p : Party) (parties : List Party) → all_shut (p ∷ parties) ≡ one_shut p + all_shut parties
  all_shut-cons p parties = named-cons weight s (party_held p) (map party_held parties)

  -- in a state
  abbrev by : State → ℕ
  by state = weight_by weight s (named_in airport state)

  by-parts : (state : State) → by state ≡ all_shut state.parties + all state.flights
  by-parts state = named-append weight s (map party_held state.parties) (flat_map (flight_held airport) state.flights)

  by-with : (x : Flight) (state : State) → by (with_flight x state) ≡ by state + one x
  by-with x state =
      omega (arith, by-parts (with_flight x state), by-parts state, all-put_in (λ (f : Flight). f.name) one all all-cons x state.flights)

  by-without : (name : List ℕ) (state : State) (x : Flight) → AreInOrder state.flights → party_named name state.parties ≡ None → flight_named name state.flights ≡ Some x
      → by state ≡ by (without name state) + one x
  by-without name state x ordered alone found =
      let same : all_shut (parties_without name state.parties) ≡ all_shut state.parties = ap all_shut (left-none (λ (p : Party). p.name) name state.parties alone) in
      omega (arith, by-parts (without name state), by-parts state, same, all-left_out (λ (f : Flight). f.name) one all all-cons name state.flights x ordered found)

  by-with_party : (x : Party) (state : State) → by (with_party x state) ≡ by state + one_shut x
  by-with_party x state =
      omega (arith, by-parts (with_party x state), by-parts state, all-put_in (λ (p : Party). p.name) one_shut all_shut all_shut-cons x state.parties)

  by-without_party : (name : List ℕ) (state : State) (x : Party) → ArePartiesInOrder state.parties → party_named name state.parties ≡ Some x
      → by state ≡ by (record state { parties = parties_without name state.parties }) + one_shut x
  by-without_party name state x ordered found =
      omega (
        arith,
        by-parts (record state { parties = parties_without name state.parties }),
        by-parts state,
        all-left_out (λ (p : Party). p.name) one_shut all_shut all_shut-cons name state.parties x ordered found,
      )

-- ---- the same without the names

unfoldable unnamed : List NamedHold → List Hold
unnamed holds = map (λ (h : NamedHold). h.hold) holds

its-own_and : (name : List ℕ) (holds : List Hold) (rest : List NamedHold) (others : List Hold) → unnamed rest ≡ others → unnamed (held_by name holds ++ rest) ≡ holds ++ others
unfolding unnamed
its-own_and name [] rest others same = same
its-own_and name (h ∷ holds) rest others same = ap (λ (all : List Hold). h ∷ all) (its-own_and name holds rest others same)

of-flights : (airport : Airport) (flights : List Flight) → unnamed (flat_map (flight_held airport) flights) ≡ flights_hold airport flights
unfolding unnamed
of-flights airport [] = refl
of-flights airport (f ∷ flights) = its-own_and f.name (flight_holds airport f) (flat_map (flight_held airport) flights) (flights_hold airport flights) (of-flights airport flights)

of-all : (airport : Airport) (parties : List Party) (flights : List Flight) → unnamed (map party_held parties ++ flat_map (flight_held airport) flights) ≡ map party_hold parties ++ flights_hold airport flights
unfolding unnamed
of-all airport [] flights = of-flights airport flights
of-all airport (p ∷ parties) flights = ap (λ (rest : List Hold). party_hold p ∷ rest) (of-all airport parties flights)

pub unnamed-in : (airport : Airport) (state : State) → map (λ (h : NamedHold). h.hold) (named_in airport state) ≡ holds_in airport state
unfolding unnamed
unnamed-in airport state = of-all airport state.parties state.flights

module _ (airport : Airport) (s : Segment) (weight : Span → ℕ) where
  abbrev alone_weight : Span × List ℕ → ℕ
  alone_weight row = weight row.0

  in-all : (state : State) → weight_on weight s (holds_in airport state) ≡ weight_by alone_weight s (named_in airport state)
  in-all state = ap (λ (holds : List Hold). weight_on weight s holds) (sym (unnamed-in airport state)) ∙ weight-unnamed weight s (named_in airport state)

  in-flight : (x : Flight) → weight_on weight s (flight_holds airport x) ≡ weight_by alone_weight s (flight_held airport x)
  unfolding unnamed
  in-flight x = ap (λ (holds : List Hold). weight_on weight s holds) (sym (unnamed-held_by x.name (flight_holds airport x))) ∙ weight-unnamed weight s (flight_held airport x)

  in-party : (x : Party) → weight_on weight s (party_hold x ∷ []) ≡ weight_by alone_weight s (party_held x ∷ [])
  in-party x = weight-unnamed weight s (party_held x ∷ [])

  abbrev held : State → ℕ
  held state = weight_on weight s (holds_in airport state)

  pub held-with : (x : Flight) (state : State) → held (with_flight x state) ≡ held state + weight_on weight s (flight_holds airport x)
  held-with x state = omega (arith, in-all (with_flight x state), in-all state, in-flight x, by-with airport s alone_weight x state)

  pub held-without : (name : List ℕ) (state : State) (x : Flight) → AreInOrder state.flights → party_named name state.parties ≡ None → flight_named name state.flights ≡ Some x
      → held state ≡ held (without name state) + weight_on weight s (flight_holds airport x)
  held-without name state x ordered alone found =
      omega (arith, in-all state, in-all (without name state), in-flight x, by-without airport s alone_weight name state x ordered alone found)

  pub held-with_party : (x : Party) (state : State) → held (with_party x state) ≡ held state + weight_on weight s (party_hold x ∷ [])
  held-with_party x state = omega (arith, in-all (with_party x state), in-all state, in-party x, by-with_party airport s alone_weight x state)

  pub held-without_party : (name : List ℕ) (state : State) (x : Party) → ArePartiesInOrder state.parties → party_named name state.parties ≡ Some x
      → held state ≡ held (record state { parties = parties_without name state.parties }) + weight_on weight s (party_hold x ∷ [])
  held-without_party name state x ordered found =
      omega (arith, in-all state, in-all (record state { parties = parties_without name state.parties }), in-party x, by-without_party airport s alone_weight name state x ordered found)

-- lists with the spans of all holders have, without the names, the spans of what is held
pub spans-alone : (airport : Airport) (state : State) (held : HeldFlights) → HasSpansOf airport state held → AreSpansOf (holds_in airport state) held.spans
spans-alone airport state held has =
    subst (λ (holds : List Hold). AreSpansOf holds held.spans) (unnamed-in airport state) (AreSpansOf-held held.spans (named_in airport state) has.holders)

-- ---- the spans of a state with a holder more, and without it

module _ (airport : Airport) (held : HeldSpans) where
  pub spans-with : (x : Flight) (state : State) → AreHeldBy (named_in airport state ++ flight_held airport x) held → AreHeldBy (named_in airport (with_flight x state)) held
  spans-with x state are =
      AreHeldBy-same held (named_in airport state ++ flight_held airport x) (named_in airport (with_flight x state))
      (λ s weight. omega (arith, named-append weight s (named_in airport state) (flight_held airport x), by-with airport s weight x state)) are

  pub spans-with_party : (x : Party) (state : State) → AreHeldBy (named_in airport state ++ party_held x ∷ []) held → AreHeldBy (named_in airport (with_party x state)) held
  spans-with_party x state are =
      AreHeldBy-same held (named_in airport state ++ party_held x ∷ []) (named_in airport (with_party x state))
      (λ s weight. omega (arith, named-append weight s (named_in airport state) (party_held x ∷ []), by-with_party airport s weight x state)) are

  pub party-apart : (name : List ℕ) (state : State) (x : Party) → ArePartiesInOrder state.parties → party_named name state.parties ≡ Some x
      → AreHeldBy (named_in airport state) held → AreHeldBy (party_held x ∷ named_in airport (record state { parties = parties_without name state.parties })) held
  party-apart name state x ordered found are =
      AreHeldBy-same held (named_in airport state) (party_held x ∷ named_in airport (record state { parties = parties_without name state.parties }))
      (λ s weight. omega (arith, named-cons weight s (party_held x) (named_in airport (record state { parties = parties_without name state.parties })), by-without_party airport s weight name state x ordered found)) are

  module _ (name : List ℕ) (state : State) (x : Flight) (ordered : AreInOrder state.flights) (alone : party_named name state.parties ≡ None) (found : flight_named name state.flights ≡ Some x) where
    same-weight : (s : Segment) (weight : Span × List ℕ → ℕ) → weight_by weight s (named_in airport state) ≡ weight_by weight s (named_in airport (without name state) ++ flight_held airport x)
    same-weight s weight =
        omega (arith, named-append weight s (named_in airport (without name state)) (flight_held airport x), by-without airport s weight name state x ordered alone found)

    spans-apart : AreHeldBy (named_in airport state) held → AreHeldBy (named_in airport (without name state) ++ flight_held airport x) held
    spans-apart are = AreHeldBy-same held (named_in airport state) (named_in airport (without name state) ++ flight_held airport x) same-weight are

    spans-together : AreHeldBy (named_in airport (without name state) ++ flight_held airport x) held → AreHeldBy (named_in airport state) held
    spans-together are =
        AreHeldBy-same held (named_in airport (without name state) ++ flight_held airport x) (named_in airport state) (λ s weight. sym (same-weight s weight)) are

-- ---- what a flight holds, put together from its parts

pub its-parts : (airport : Airport) (f : Flight) (holder : List ℕ) (horizon clearance : ℕ) (steps : List Step) → holder ≡ f.name → horizon ≡ airport.horizon → clearance ≡ clearance_of airport f.class → steps ≡ f.steps
    → held_by holder (holds_of horizon clearance steps) ≡ flight_held airport f
its-parts airport f holder horizon clearance steps is_holder is_horizon is_clearance are_steps = λ i. held_by (is_holder i) (holds_of (is_horizon i) (is_clearance i) (are_steps i))

module _ (airport : Airport) (held : HeldSpans) (name : List ℕ) (state : State) (f : Flight) (ordered : AreInOrder state.flights) (alone : party_named name state.parties ≡ None)
    (found : flight_named name state.flights ≡ Some f) (horizon clearance : ℕ) (steps : List Step) (is_horizon : horizon ≡ airport.horizon) (is_clearance : clearance ≡ clearance_of airport f.class)
    (are_steps : steps ≡ f.steps) where
  its-holds : flight_held airport f ≡ held_by f.name (holds_of horizon clearance steps)
  its-holds = sym (its-parts airport f f.name horizon clearance steps refl is_horizon is_clearance are_steps)

  pub take-apart : AreHeldBy (named_in airport state) held → AreHeldBy (named_in airport (without name state) ++ held_by f.name (holds_of horizon clearance steps)) held
  take-apart are =
      subst (λ (its : List NamedHold). AreHeldBy (named_in airport (without name state) ++ its) held) its-holds (spans-apart airport held name state f ordered alone found are)

  pub put-together : AreHeldBy (named_in airport (without name state) ++ held_by f.name (holds_of horizon clearance steps)) held → AreHeldBy (named_in airport state) held
  put-together are =
      spans-together airport held name state f ordered alone found
      (subst (λ (its : List NamedHold). AreHeldBy (named_in airport (without name state) ++ its) held) (sym its-holds) are)

-- steps on arcs of the airport have lists
pub steps-listed : (airport : Airport) (lists : ℕ) (steps : List Step) → lists ≡ length airport.segments → All (λ step. IsTrue (arc_exists (layout_of airport) step.arc)) steps
    → All (λ step. (segment_of step.arc).0 < lists) steps
steps-listed airport lists steps count arcs k d low = let on = arc_exists-segment airport (get_or steps k d).arc (arcs k d low) in omega (arith, count, on)

-- ---- a flight with another route

abbrev pub routed : Flight → Request → List Step → Flight
routed flight request steps = record flight { request = request; steps = steps }

module _ (state : State) (name : List ℕ) (ordered : AreInOrder state.flights) (alone : party_named name state.parties ≡ None) (k : ℕ) (place : IsPlace (λ f. f.name) state.flights name (Ok k))
    (f : Flight) (is : f ≡ get_or state.flights k f) (request : Request) (steps : List Step) where
  named : f.name ≡ name
  named = ap (λ (g : Flight). g.name) is ∙ place.named f

  abbrev set_state : State
  set_state = record state { flights = set state.flights k (record { name = f.name; class = f.class; request = request; steps = steps }) }

  set-route : set_state ≡ with_route f request steps state
  set-route =
      let flights = set-here (λ (g : Flight). g.name) (routed f request steps) state.flights k f ordered place.here (ap (λ (g : Flight). g.name) (sym is)) in
      let parties : parties_without f.name state.parties ≡ state.parties = subst (λ n. parties_without n state.parties ≡ state.parties) (sym named) (left-none (λ (p : Party). p.name) name state.parties alone) in
      λ i. record { flights = flights i; parties = sym parties i }

  pub route-state : (other : Flight) → flight_named name state.flights ≡ Some other → set_state ≡ with_route other request steps state
  route-state other found =
      let same_one : f ≡ other = cc (sym (named-at (λ (g : Flight). g.name) state.flights name ordered k place f is) ∙ found) in
      subst (λ (g : Flight). set_state ≡ with_route g request steps state) same_one set-route

  pub route-spans : (airport : Airport) (held : HeldSpans) → AreHeldBy (named_in airport (without name state) ++ flight_held airport (routed f request steps)) held
      → AreHeldBy (named_in airport set_state) held
  route-spans airport held are =
      subst (λ (s : State). AreHeldBy (named_in airport s) held) (sym set-route)
      (spans-with airport held (routed f request steps) (without f.name state)
      (subst (λ n. AreHeldBy (named_in airport (without n state) ++ flight_held airport (routed f request steps)) held) (sym named) are))

-- the flight or party that a look-up finds
pub copied-flight : {A : Type 0} (o : Option (Bor A)) (x : Bor A) → o ≡ Some x → option_copied o ≡ Some x.now
copied-flight o x is = ap option_copied is
