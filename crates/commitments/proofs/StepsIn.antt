-- The steps of all holders: what they hold, and what they are where a holder comes or goes.
use Rattle.std.proofs.Common.{◌≡◌, ℕ, ◌+◌, ◌-◌, ◌<◌, ◌≤◌, Bool, List, [], ◌∷◌, ◌++◌, length, map, Some, refl, sym, ap, ◌∙◌, subst, arith}
use Rattle.std.specs.Prelude.{count_by, flat_map, remove, slice_get, option_map}
use Rattle.std.proofs.lemmas.List.{length-map, map-append}
use Rattle.std.proofs.lemmas.List.Concat.{flat_map-append}
use Rattle.std.proofs.lemmas.List.Edits.{remove-append_left, remove-append_right}
use Rattle.std.proofs.lemmas.List.Folds.{flat_map-map}
use Rattle.std.proofs.lemmas.Option.{slice_get-map}
use Rattle.taxi_base.specs.declared.answers.Flight.{Flight}
use Rattle.taxi_base.specs.declared.answers.Party.{Party}
use Rattle.taxi_base.specs.Airport.{Airport}
use Rattle.taxi_base.specs.Windows.{Hold, HeldRoute, holds_of}
use Rattle.taxi_base.specs.State.{State, with_flight, with_party, holds_in}
use Rattle.taxi_base.proofs.ListLaws.{remove-map}
use Rattle.window_store.specs.Store.{Store}
use Rattle.window_store.specs.Stands.{StandsFor, route_holds}
use Rattle.commitments.specs.declared.segment_holds.HeldStep.{HeldStep}
use Rattle.commitments.specs.Book.{route_of, party_route, routes_of}
use Rattle.commitments.specs.Held.{hold_by, flight_holder, party_steps, flight_steps, steps_of_each, joined, steps_in, AreAsMany}
use Rattle.commitments.proofs.SameHolds.{put_in-holds, remove-holds}
use Rattle.commitments.proofs.Routes.{AreOver, routes-hold, slice_get-left, slice_get-right}
use Rattle.commitments.proofs.Arranged.{count-append, permuted}
use Rattle.commitments.proofs.HoldRoom.{holds-with, StandsFor-as_many}

-- ---- those of one holder

module _ (state : State) where
  pub each-party : (number : ℕ) (p : Party) → slice_get state.parties number ≡ Some p → number < length state.parties → slice_get (steps_of_each state) number ≡ Some (party_steps p)
  each-party number p found low =
      slice_get-left (map party_steps state.parties) (map flight_steps state.flights) number (omega (arith, length-map state.parties party_steps, low))
      ∙ slice_get-map party_steps state.parties number ∙ ap (option_map party_steps) found

  pub each-flight : (number : ℕ) (f : Flight) → length state.parties ≤ number → slice_get state.flights (number - length state.parties) ≡ Some f → slice_get (steps_of_each state) number ≡ Some (flight_steps f)
  each-flight number f low found =
      slice_get-right (map party_steps state.parties) (map flight_steps state.flights) number (omega (arith, length-map state.parties party_steps, low))
      ∙ rw (length-map state.parties party_steps) (slice_get-map flight_steps state.flights (number - length state.parties)) ∙ ap (option_map flight_steps) found

  pub each-party_left : (number : ℕ) → number < length state.parties → remove (steps_of_each state) number ≡ steps_of_each (record state { parties = remove state.parties number })
  each-party_left number low =
      remove-append_left (map party_steps state.parties) (map flight_steps state.flights) number (omega (arith, length-map state.parties party_steps, low))
      ∙ ap (λ (each : List (List HeldStep)). each ++ map flight_steps state.flights) (remove-map party_steps state.parties number)

  pub each-flight_left : (place : ℕ) → remove (steps_of_each state) (length state.parties + place) ≡ steps_of_each (record state { flights = remove state.flights place })
  each-flight_left place =
      let e : length state.parties + place - length state.parties ≡ place = omega arith in
      remove-append_right (map party_steps state.parties) (map flight_steps state.flights) (length state.parties) (length state.parties + place) (length-map state.parties party_steps) (omega arith)
      ∙ rw e (ap (λ (each : List (List HeldStep)). map party_steps state.parties ++ each) (remove-map flight_steps state.flights place))

-- ---- what they hold

map-joined : (f : HeldStep → Hold) (each : List (List HeldStep)) → map f (joined each) ≡ flat_map (λ (holds : List Hold). holds) (map (map f) each)
map-joined f [] = refl
map-joined f (steps ∷ each) = map-append f steps (joined each) ∙ ap (λ (holds : List Hold). map f steps ++ holds) (map-joined f each)

module _ (airport : Airport) where
  abbrev held : HeldRoute → List Hold
  held route = holds_of airport.horizon route.clearance route.steps

  parties-same : (parties : List Party) → map held (map party_route parties) ≡ map (map (hold_by airport)) (map party_steps parties)
  parties-same [] = refl
  parties-same (p ∷ parties) = ap (λ (rest : List (List Hold)). held (party_route p) ∷ rest) (parties-same parties)

  flights-same : (flights : List Flight) → map held (map (route_of airport) flights) ≡ map (map (hold_by airport)) (map flight_steps flights)
  flights-same [] = refl
  flights-same (f ∷ flights) =
      ap (λ (first : List Hold). first ∷ map held (map (route_of airport) flights)) (sym (holds-with airport (flight_holder f) f.steps))
      ∙ ap (λ (rest : List (List Hold)). map (hold_by airport) (flight_steps f) ∷ rest) (flights-same flights)

  routes-same : (state : State) → map held (routes_of airport state) ≡ map (map (hold_by airport)) (steps_of_each state)
  routes-same state =
      map-append held (map party_route state.parties) (map (route_of airport) state.flights)
      ∙ ap (λ (first : List (List Hold)). first ++ map held (map (route_of airport) state.flights)) (parties-same state.parties)
      ∙ ap (λ (rest : List (List Hold)). map (map (hold_by airport)) (map party_steps state.parties) ++ rest) (flights-same state.flights)
      ∙ sym (map-append (map (hold_by airport)) (map party_steps state.parties) (map flight_steps state.flights))

  -- all but one of them hold what the other routes hold
  pub others-hold : (state : State) (number : ℕ) → map (hold_by airport) (joined (remove (steps_of_each state) number)) ≡ route_holds airport.horizon (remove (routes_of airport state) number)
  others-hold state number =
      map-joined (hold_by airport) (remove (steps_of_each state) number)
      ∙ ap (λ (each : List (List Hold)). flat_map (λ holds. holds) each)
      (sym (remove-map (map (hold_by airport)) (steps_of_each state) number) ∙ ap (λ (each : List (List Hold)). remove each number) (sym (routes-same state)) ∙ remove-map held (routes_of airport state) number)
      ∙ flat_map-map (λ (holds : List Hold). holds) held (remove (routes_of airport state) number)

  pub all-hold : (state : State) → AreOver airport state.parties → map (hold_by airport) (steps_in state) ≡ holds_in airport state
  all-hold state over =
      map-joined (hold_by airport) (steps_of_each state)
      ∙ ap (λ (each : List (List Hold)). flat_map (λ holds. holds) each) (sym (routes-same state))
      ∙ flat_map-map (λ (holds : List Hold). holds) held (routes_of airport state) ∙ routes-hold airport state over

  -- so a store that stands for what all hold stands for these steps
  pub steps-stand : (state : State) (steps : List HeldStep) (store : Store) → AreOver airport state.parties → AreAsMany steps (steps_in state) → StandsFor airport.conflicts airport.horizon (holds_in airport state) store
      → StandsFor airport.conflicts airport.horizon (map (hold_by airport) steps) store
  steps-stand state steps store over as_many stands =
      StandsFor-as_many airport (steps_in state) steps store (λ test. sym (as_many test))
      (subst (λ (holds : List Hold). StandsFor airport.conflicts airport.horizon holds store) (sym (all-hold state over)) stands)

-- ---- where a holder comes or goes

count-in : (test : HeldStep → Bool) (state : State) → count_by test (steps_in state) ≡ count_by test (flat_map party_steps state.parties) + count_by test (flat_map flight_steps state.flights)
count-in test state =
    ap (count_by test) (flat_map-append (λ (steps : List HeldStep). steps) (map party_steps state.parties) (map flight_steps state.flights))
    ∙ count-append test (flat_map (λ steps. steps) (map party_steps state.parties)) (flat_map (λ steps. steps) (map flight_steps state.flights))
    ∙ ap (λ n. n + count_by test (flat_map (λ steps. steps) (map flight_steps state.flights))) (ap (count_by test) (flat_map-map (λ (steps : List HeldStep). steps) party_steps state.parties))
    ∙ ap (λ n. count_by test (flat_map party_steps state.parties) + n) (ap (count_by test) (flat_map-map (λ (steps : List HeldStep). steps) flight_steps state.flights))

module _ (state : State) where
  pub steps-with_flight : (f : Flight) → AreAsMany (steps_in state ++ flight_steps f) (steps_in (with_flight f state))
  steps-with_flight f test =
      omega (
        arith,
        count-append test (steps_in state) (flight_steps f),
        count-in test state,
        count-in test (with_flight f state),
        permuted _ _ (put_in-holds (λ (f : Flight). f.name) flight_steps f state.flights) test,
        count-append test (flat_map flight_steps state.flights) (flight_steps f),
      )

  pub steps-with_party : (p : Party) → AreAsMany (steps_in state ++ party_steps p) (steps_in (with_party p state))
  steps-with_party p test =
      omega (
        arith,
        count-append test (steps_in state) (party_steps p),
        count-in test state,
        count-in test (with_party p state),
        permuted _ _ (put_in-holds (λ (p : Party). p.name) party_steps p state.parties) test,
        count-append test (flat_map party_steps state.parties) (party_steps p),
      )

  -- without the holder of a number, and with its steps
  pub steps-parted : (number : ℕ) (steps : List HeldStep) → slice_get (steps_of_each state) number ≡ Some steps → AreAsMany (steps_in state) (joined (remove (steps_of_each state) number) ++ steps)
  steps-parted number steps found = permuted _ _ (remove-holds (λ (steps : List HeldStep). steps) (steps_of_each state) number steps found)

-- what is left of some steps where the same are gone from both
pub as_many-left : (old all new rest gone : List HeldStep) → AreAsMany old all → AreAsMany all (rest ++ gone) → AreAsMany old (new ++ gone) → AreAsMany new rest
as_many-left old all new rest gone same parted left test =
    omega (arith, same test, parted test, left test, count-append test rest gone, count-append test new gone)
