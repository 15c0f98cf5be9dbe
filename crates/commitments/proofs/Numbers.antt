-- The routes of a feasible state can be held, and there are few enough holds that the numbers of a store do not wrap.
use Rattle.std.proofs.Common.{◌≡◌, ℕ, ◌+◌, ◌*◌, ◌^◌, ◌<◌, ◌≤◌, List, [], ◌∷◌, length, Option, Some, None, true, ◌/◌, subst, arith}
use Rattle.std.specs.Prelude.{All, map, slice_get}
use Rattle.std.proofs.lemmas.List.{get_or_default, length-append, length-map}
use Rattle.std.proofs.lemmas.Option.{get_or_from_slice_get, slice_get_within}
use Rattle.std.proofs.lemmas.List.Concat.{length-flat_map}
use Rattle.std.proofs.lemmas.List.Elements.{All-weaker, All-append, All-cons, All-map, All-nil}
use Rattle.std.proofs.lemmas.List.Sums.{sum_by-le, count_by-le-length}
use Rattle.taxi_base.specs.declared.numbers.Class.{Class}
use Rattle.taxi_base.specs.declared.numbers.Segment.{Segment}
use Rattle.taxi_base.specs.declared.rows.Step.{Step}
use Rattle.taxi_base.specs.declared.answers.Party.{Party}
use Rattle.taxi_base.specs.Airport.{Airport, IsWellFormed, clearance_of, conflict, arc_exists, layout_of}
use Rattle.taxi_base.specs.Windows.{Hold, HeldRoute, hold_of}
use Rattle.taxi_base.specs.Walks.{conditions_among, IsFeasibleStep, IsFeasibleWalk}
use Rattle.taxi_base.specs.State.{State, without, flight_holds, flights_hold, party_hold, party_step, holds_in, IsFeasibleHold, IsFeasibleState, conditions_of}
use Rattle.taxi_base.proofs.AirportLaws.{arc_exists-segment, seconds-range}
use Rattle.taxi_base.proofs.WalkLaws.{IsFeasibleWalk-steps, IsFeasibleStep-takes}
use Rattle.taxi_base.proofs.StateLaws.{IsFeasibleState-without}
use Rattle.window_store.specs.Store.{no_list}
use Rattle.window_store.specs.Stands.{AreOnSegments, TakeTime, AreInTime}
use Rattle.commitments.specs.Book.{Book, without_lifted, remaining, route_of, party_route, routes_of, Fits}

-- steps on arcs lie on segments
pub arcs-on_segments : (airport : Airport) (steps : List Step) → All (λ s. arc_exists (layout_of airport) s.arc ≡ true) steps → AreOnSegments (length airport.segments) steps
arcs-on_segments airport steps arcs =
    All-weaker (λ s. arc_exists (layout_of airport) s.arc ≡ true) (λ s. s.arc.0 / 2 < length airport.segments)
    (λ s exists. arc_exists-segment airport s.arc exists) steps arcs

-- ---- the steps of a feasible walk

module _ (airport : Airport) (rules : IsWellFormed airport) (class : Class) (holds : List Hold) where
  takes : (step : Step) → IsFeasibleStep (conditions_among airport class holds) step → step.enter < step.leave
  takes = IsFeasibleStep-takes (conditions_among airport class holds) (λ s n least. (seconds-range airport class s n rules least).0)

  module _ (steps : List Step) (walk : IsFeasibleWalk (conditions_among airport class holds) steps) where
    each : All (IsFeasibleStep (conditions_among airport class holds)) steps
    each = IsFeasibleWalk-steps (conditions_among airport class holds) steps walk

    walk-on_segments : AreOnSegments (length airport.segments) steps
    walk-on_segments =
        All-weaker (IsFeasibleStep (conditions_among airport class holds)) (λ s. s.arc.0 / 2 < length airport.segments)
        (λ s made. arc_exists-segment airport s.arc made.on_arc) steps each

    walk-takes_time : TakeTime steps
    walk-takes_time = All-weaker (IsFeasibleStep (conditions_among airport class holds)) (λ s. s.enter < s.leave) takes steps each

    walk-in_time : AreInTime airport.horizon steps
    walk-in_time = All-weaker (IsFeasibleStep (conditions_among airport class holds)) (λ s. s.leave ≤ airport.horizon) (λ s made. made.in_time) steps each

  -- each step takes a second at least, and the last ends by the horizon
  length-from : (s : Step) (steps : List Step) → IsFeasibleWalk (conditions_among airport class holds) (s ∷ steps) → s.enter + length (s ∷ steps) ≤ airport.horizon
  length-from s [] walk = omega (arith, takes s walk, walk.in_time)
  length-from s (t ∷ steps) walk = omega (arith, takes s walk.0, walk.1.at_once, length-from t steps walk.2)

  length-walk : (steps : List Step) → IsFeasibleWalk (conditions_among airport class holds) steps → length steps ≤ airport.horizon
  length-walk [] walk = absurd walk
  length-walk (s ∷ steps) walk = omega (arith, length-from s steps walk)

-- ---- the routes of a feasible state

-- a route on segments of the airport, each step of which takes time and ends by the horizon
pub record IsKept (airport : Airport) (steps : List Step) : Type 0 where
  pub on_segments : AreOnSegments (length airport.segments) steps
  pub takes_time : TakeTime steps
  pub in_time : AreInTime airport.horizon steps

module _ (airport : Airport) (rules : IsWellFormed airport) where
  -- a party's
  pub kept-party : (state : State) (party : Party) → IsFeasibleHold airport state (party_hold party) → IsKept airport (party_step party ∷ [])
  kept-party state party shut = record {
    on_segments = All-cons (λ s. s.arc.0 / 2 < length airport.segments) (party_step party) [] on_segment (All-nil (λ s. s.arc.0 / 2 < length airport.segments));
    takes_time = All-cons (λ s. s.enter < s.leave) (party_step party) [] shut.some (All-nil (λ s. s.enter < s.leave));
    in_time = All-cons (λ s. s.leave ≤ airport.horizon) (party_step party) [] shut.in_time (All-nil (λ s. s.leave ≤ airport.horizon));
  } where
    on_segment : (2 * party.segment.0 + 0) / 2 < length airport.segments
    on_segment = omega (arith, shut.on_segment)

  -- a flight's
  pub kept-walk : (class : Class) (holds : List Hold) (steps : List Step) → IsFeasibleWalk (conditions_among airport class holds) steps → IsKept airport steps
  kept-walk class holds steps walk = record {
    on_segments = walk-on_segments airport rules class holds steps walk;
    takes_time = walk-takes_time airport rules class holds steps walk;
    in_time = walk-in_time airport rules class holds steps walk;
  }

  pub kept-routes : (state : State) → IsFeasibleState airport state → All (λ r. IsKept airport r.steps) (routes_of airport state)
  kept-routes state feasible =
      All-append (λ (r : HeldRoute). IsKept airport r.steps) (map party_route state.parties) (map (route_of airport) state.flights)
      (All-map (λ (r : HeldRoute). IsKept airport r.steps) party_route state.parties
      (All-weaker (λ p. IsFeasibleHold airport (without p.name state) (party_hold p)) (λ p. IsKept airport (party_step p ∷ [])) (λ p shut. kept-party (without p.name state) p shut)
      state.parties feasible.shut))
      (All-map (λ (r : HeldRoute). IsKept airport r.steps) (route_of airport) state.flights
      (All-weaker (λ f. IsFeasibleWalk (conditions_of airport state f) f.steps) (λ f. IsKept airport f.steps) (λ f walk. kept-walk f.class (holds_in airport (without f.name state)) f.steps walk)
      state.flights feasible.walks))

  pub kept-route : (state : State) → IsFeasibleState airport state → (number : ℕ) (r : HeldRoute) → slice_get (routes_of airport state) number ≡ Some r → IsKept airport r.steps
  kept-route state feasible number r found =
      subst (λ (q : HeldRoute). IsKept airport q.steps) (get_or_from_slice_get (routes_of airport state) number r r found)
      (kept-routes state feasible number r (slice_get_within (routes_of airport state) number r found))

-- ---- the numbers of a store

module _ (airport : Airport) (rules : IsWellFormed airport) where
  length-flight_holds : (state : State) → IsFeasibleState airport state → All (λ f. length (flight_holds airport f) ≤ 604800) state.flights
  length-flight_holds state feasible =
      All-weaker (λ f. IsFeasibleWalk (conditions_of airport state f) f.steps) (λ f. length (flight_holds airport f) ≤ 604800)
      (λ f walk. omega (
        arith,
        length-map f.steps (hold_of airport.horizon (clearance_of airport f.class)),
        length-walk airport rules f.class (holds_in airport (without f.name state)) f.steps walk,
        rules.horizon.1,
      ))
      state.flights feasible.walks

  length-holds_in : (state : State) → IsFeasibleState airport state → length (holds_in airport state) ≤ 4096 * 604800
  length-holds_in state feasible =
      omega (
        arith,
        length-append (map party_hold state.parties) (flights_hold airport state.flights),
        length-map state.parties party_hold,
        length-flat_map (flight_holds airport) state.flights,
        sum_by-le (λ f. length (flight_holds airport f)) 604800 state.flights (length-flight_holds state feasible),
        feasible.few,
      )

  -- with one lifted or none
  length-remaining : (lifted : Option (List ℕ)) (state : State) → IsFeasibleState airport state → length (holds_in airport (without_lifted lifted state)) ≤ 4096 * 604800
  length-remaining None state feasible = length-holds_in state feasible
  length-remaining (Some name) state feasible = length-holds_in (without name state) (IsFeasibleState-without airport name state feasible)

  -- the number of each list, and of fewer than 2^32 steps more
  pub few-held : (book : Book) (more : ℕ) → Fits airport book → more < 2 ^ 32 → All (λ l. l.held + more < 2 ^ 33) book.store.lists
  few-held book more fits few k d within =
      let segment : Segment = record { 0 = k } in
      let same = get_or_default book.store.lists k d no_list within in
      let number = (fits.stands segment within).number in
      let count = count_by-le-length (λ (h : Hold). conflict airport.conflicts segment h.segment) (holds_in airport (remaining book)) in
      rw same (omega (arith, number, count, length-remaining book.lifted book.state fits.feasible))
