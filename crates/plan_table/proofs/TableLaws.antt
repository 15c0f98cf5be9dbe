-- One more row of the table.
use Rattle.std.proofs.Common.{◌≡◌, ℕ, ◌+◌, ◌-◌, ◌<◌, ◌≤◌, List, [], ◌∷◌, ◌++◌, map, length, take, get_or, Some, refl, sym, ap, subst, ◌∙◌, arith, append_assoc, append-nil}
use Rattle.std.specs.Prelude.{All, Contains, IsTrue, slice_get}
use Rattle.std.proofs.lemmas.List.{map-append, length-take}
use Rattle.std.proofs.lemmas.List.Elements.{All-contains, All-weaker}
use Rattle.std.proofs.lemmas.Option.{get_or_from_slice_get, slice_get_within}
use Rattle.std.proofs.lemmas.Grind.{take_at_read}
use Rattle.taxi_base.specs.declared.rows.Step.{Step}
use Rattle.taxi_base.specs.declared.answers.Flight.{Flight}
use Rattle.taxi_base.specs.declared.answers.Party.{Party}
use Rattle.taxi_base.specs.Airport.{Airport, IsWellFormed, arc_exists, layout_of}
use Rattle.taxi_base.specs.State.{State, without, party_hold, conditions_of, IsFeasibleHold, IsFeasibleState}
use Rattle.taxi_base.proofs.AirportLaws.{seconds-range}
use Rattle.taxi_base.proofs.WalkLaws.{IsFeasibleWalk-steps, IsFeasibleStep-takes}
use Rattle.taxi_base.specs.Walks.{Conditions, IsFeasibleStep, IsFeasibleWalk}
use Rattle.airport_text.specs.Canonical.{Fields, text_of_records}
use Rattle.airport_text.specs.Written.{and_records}
use Rattle.airport_text.proofs.RecordLaws.{records-then}
use Rattle.plan_table.specs.declared.row.PlanRow.{PlanRow}
use Rattle.plan_table.specs.Plan.{IsStepRow, IsPartyRow, AreStepRows, AreFlightRows, ArePartyRows}

-- ---- rows

pub steps-more : (airport : Airport) (state : State) (flight : Flight) (number : ℕ) (steps : List Step) (rows : List PlanRow) (step : Step) (row : PlanRow)
    → AreStepRows airport state flight number steps rows → IsStepRow airport state flight (number + length steps) step row
    → AreStepRows airport state flight number (steps ++ step ∷ []) (rows ++ row ∷ [])
steps-more airport state flight number [] [] step row are is = let e : number + 0 ≡ number = omega arith in (rw e at is, tt)
steps-more airport state flight number [] (r ∷ rows) step row are is = absurd are
steps-more airport state flight number (s ∷ steps) [] step row are is = absurd are
steps-more airport state flight number (s ∷ steps) (r ∷ rows) step row are is =
    let e : number + length (s ∷ steps) ≡ number + 1 + length steps = omega arith in
    (are.0, steps-more airport state flight (number + 1) steps rows step row are.1 (rw e at is))

pub parties-more : (airport : Airport) (state : State) (parties : List Party) (rows : List PlanRow) (party : Party) (row : PlanRow)
    → ArePartyRows airport state parties rows → IsPartyRow airport state party row → ArePartyRows airport state (parties ++ party ∷ []) (rows ++ row ∷ [])
parties-more airport state [] [] party row are is = (is, tt)
parties-more airport state [] (r ∷ rows) party row are is = absurd are
parties-more airport state (p ∷ parties) [] party row are is = absurd are
parties-more airport state (p ∷ parties) (r ∷ rows) party row are is = (are.0, parties-more airport state parties rows party row are.1 is)

pub flights-more : (airport : Airport) (state : State) (flights : List Flight) (rows : List PlanRow) (flight : Flight) (own : List PlanRow)
    → AreFlightRows airport state flights rows → AreStepRows airport state flight 1 flight.steps own → AreFlightRows airport state (flights ++ flight ∷ []) (rows ++ own)
flights-more airport state [] rows flight own none is = (own, [], rw none (sym (append-nil own)), is, refl)
flights-more airport state (f ∷ flights) rows flight own are is =
    (are.0, are.1 ++ own, rw are.2 (append_assoc are.0 are.1 own), are.3, flights-more airport state flights are.1 flight own are.4 is)

-- the same at a place
pub step-more-at : (airport : Airport) (state : State) (flight : Flight) (items : List Step) (i number : ℕ) (d : Step) (rows : List PlanRow) (row : PlanRow) → items ≡ flight.steps → i < length items → number ≡ i
    → AreStepRows airport state flight 1 (take i flight.steps) rows → IsStepRow airport state flight (number + 1) (get_or items i d) row
    → AreStepRows airport state flight 1 (take (i + 1) flight.steps) (rows ++ row ∷ [])
step-more-at airport state flight items i number d rows row are_same low counted are is =
    let on : i < length flight.steps = rw are_same at low in
    let item : get_or items i d ≡ get_or flight.steps i d = ap (λ (xs : List Step). get_or xs i d) are_same in
    let few : length (take i flight.steps) ≡ i = grind (arith, length-take) in
    let next : number + 1 ≡ 1 + length (take i flight.steps) = omega (arith, counted, few) in
    rw ((take_at_read flight.steps i d on).1)
    (steps-more airport state flight 1 (take i flight.steps) rows (get_or flight.steps i d) row are
    (subst (λ (n : ℕ). IsStepRow airport state flight n (get_or flight.steps i d) row) next (subst (λ (s : Step). IsStepRow airport state flight (number + 1) s row) item is)))

taken : {A : Type 0} (xs : List A) (i : ℕ) (x : A) → slice_get xs i ≡ Some x → take (i + 1) xs ≡ take i xs ++ x ∷ []
taken xs i x found = rw (get_or_from_slice_get xs i x x found) at ((take_at_read xs i x (slice_get_within xs i x found)).1)

pub flight-more-at : (airport : Airport) (state : State) (i : ℕ) (flight : Flight) (rows own : List PlanRow) → slice_get state.flights i ≡ Some flight
    → AreFlightRows airport state (take i state.flights) rows → AreStepRows airport state flight 1 flight.steps own → AreFlightRows airport state (take (i + 1) state.flights) (rows ++ own)
flight-more-at airport state i flight rows own found are is = rw (taken state.flights i flight found) (flights-more airport state (take i state.flights) rows flight own are is)

pub party-more-at : (airport : Airport) (state : State) (i : ℕ) (party : Party) (rows : List PlanRow) (row : PlanRow) → slice_get state.parties i ≡ Some party
    → ArePartyRows airport state (take i state.parties) rows → IsPartyRow airport state party row → ArePartyRows airport state (take (i + 1) state.parties) (rows ++ row ∷ [])
party-more-at airport state i party rows row found are is = rw (taken state.parties i party found) (parties-more airport state (take i state.parties) rows party row are is)

-- what is at a place is among all
pub at-place : {A : Type 0} (xs : List A) (i : ℕ) (x : A) → slice_get xs i ≡ Some x → Contains xs x
at-place xs i x found = (i, slice_get_within xs i x found, get_or_from_slice_get xs i x x found)

-- ---- the records of rows

pub rows-then : (f : PlanRow → Fields) (before text after : List ℕ) (rows own : List PlanRow) → text ≡ and_records before (map f rows) → after ≡ and_records text (map f own)
    → after ≡ and_records before (map f (rows ++ own))
rows-then f before text after rows own so_far next =
    records-then before text after (map f rows) (map f own) so_far next ∙ ap (λ r. and_records before r) (sym (map-append f rows own))

-- a text of nothing but a first record, some rows and others
pub whole-of : (f : PlanRow → Fields) (start head mid end : List ℕ) (first : Fields) (rows others : List PlanRow) → start ≡ []
    → head ≡ and_records start (first ∷ []) → mid ≡ and_records head (map f rows) → end ≡ and_records mid (map f others)
    → end ≡ text_of_records (first ∷ map f (rows ++ others))
unfolding and_records
whole-of f start head mid end first rows others empty begun so_far next =
    let both : end ≡ and_records head (map f (rows ++ others)) = rows-then f head mid end rows others so_far next in
    let all : end ≡ and_records start (first ∷ map f (rows ++ others)) = records-then start head end (first ∷ []) (map f (rows ++ others)) begun both in
    all ∙ ap (λ t. and_records t (first ∷ map f (rows ++ others))) empty

-- ---- how many steps there are

-- each step takes a second at least, and the last ends by the horizon
length-from : (c : Conditions) → ((s : Step) → IsFeasibleStep c s → 1 ≤ s.leave - s.enter) → (s : Step) (steps : List Step) → IsFeasibleWalk c (s ∷ steps)
    → s.enter + length (s ∷ steps) ≤ c.airport.horizon
length-from c takes s [] walk = omega (arith, takes s walk, walk.in_time)
length-from c takes s (t ∷ steps) walk = omega (arith, takes s walk.0, walk.1.at_once, length-from c takes t steps walk.2)

pub length-walk : (c : Conditions) → ((s : Step) → IsFeasibleStep c s → 1 ≤ s.leave - s.enter) → (steps : List Step) → IsFeasibleWalk c steps → length steps ≤ c.airport.horizon
length-walk c takes [] walk = absurd walk
length-walk c takes (s ∷ steps) walk = omega (arith, length-from c takes s steps walk)

-- ---- what holders are known to be

module _ (airport : Airport) (rules : IsWellFormed airport) (state : State) (feasible : IsFeasibleState airport state) where
  pub flight-walk : (flight : Flight) → Contains state.flights flight → IsFeasibleWalk (conditions_of airport state flight) flight.steps
  flight-walk flight in_force = All-contains (λ (f : Flight). IsFeasibleWalk (conditions_of airport state f) f.steps) state.flights flight feasible.walks in_force

  pub flight-arcs : (flight : Flight) → Contains state.flights flight → All (λ s. IsTrue (arc_exists (layout_of airport) s.arc)) flight.steps
  flight-arcs flight in_force =
      All-weaker (IsFeasibleStep (conditions_of airport state flight)) (λ s. IsTrue (arc_exists (layout_of airport) s.arc)) (λ s made. made.on_arc) flight.steps
      (IsFeasibleWalk-steps (conditions_of airport state flight) flight.steps (flight-walk flight in_force))

  pub flight-few : (flight : Flight) → Contains state.flights flight → length flight.steps ≤ 604800
  flight-few flight in_force =
      let few = length-walk (conditions_of airport state flight)
      (λ s made. let takes = IsFeasibleStep-takes (conditions_of airport state flight) (λ g n least. (seconds-range airport flight.class g n rules least).0) s made in omega arith)
      flight.steps (flight-walk flight in_force) in
      let near = rules.horizon in
      omega (arith, few, near)

  -- a step is entered no later than it is left
  pub step-ordered : (flight : Flight) (step : Step) → IsFeasibleStep (conditions_of airport state flight) step → (step.enter ≤ 604800) × (step.leave ≤ 604800)
  step-ordered flight step made =
      let takes = IsFeasibleStep-takes (conditions_of airport state flight) (λ g n least. (seconds-range airport flight.class g n rules least).0) step made in
      let near = rules.horizon in
      let by = made.in_time in
      (omega (arith, takes, near, by), omega (arith, near, by))

  pub party-shut : (party : Party) → Contains state.parties party → IsFeasibleHold airport (without party.name state) (party_hold party)
  party-shut party in_force = All-contains (λ (p : Party). IsFeasibleHold airport (without p.name state) (party_hold p)) state.parties party feasible.shut in_force

  pub party-ordered : (party : Party) → Contains state.parties party → (party.from ≤ 604800) × (party.until ≤ 604800)
  party-ordered party in_force =
      let shut = party-shut party in_force in
      let some = shut.some in
      let by = shut.in_time in
      let near = rules.horizon in
      (omega (arith, some, by, near), omega (arith, by, near))
