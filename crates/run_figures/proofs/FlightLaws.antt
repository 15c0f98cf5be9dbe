-- What is known of each flight in force, and sums with one flight more.
use Rattle.std.proofs.Common.{◌≡◌, ◌∙◌, ℕ, ◌+◌, ◌≤◌, Bool, true, false, List, [], ◌∷◌, ◌++◌, length, take, get_or, Some, refl, sym, append-nil, arith}
use Rattle.std.specs.Prelude.{Contains, filter, sum_by, slice_get}
use Rattle.std.proofs.lemmas.List.{length-append}
use Rattle.std.proofs.lemmas.List.Elements.{All-contains, filter_more}
use Rattle.std.proofs.lemmas.List.Sums.{sum_by-cons, sum_by_push}
use Rattle.std.proofs.lemmas.Option.{get_or_from_slice_get, slice_get_within}
use Rattle.taxi_base.specs.declared.rows.Step.{Step}
use Rattle.taxi_base.specs.declared.answers.Request.{Request}
use Rattle.taxi_base.specs.declared.answers.Request.TheVariants.{Filed, Arrival, Departure}
use Rattle.taxi_base.specs.declared.answers.Flight.{Flight}
use Rattle.taxi_base.specs.Airport.{Airport, IsWellFormed, segment_of, seconds}
use Rattle.taxi_base.specs.Walks.{Conditions, IsFeasibleStep, IsFeasibleWalk, AtLast, end_of, Meets}
use Rattle.taxi_base.specs.State.{State, conditions_of, IsSound}
use Rattle.taxi_base.proofs.WalkLaws.{IsSomeAnd-value}
use Rattle.plan_table.specs.Rows.{least_for}
use Rattle.run_figures.specs.declared.flights.Sums.{Sums}
use Rattle.run_figures.specs.Flights.{taxied_by, least_by, shifted_by, sums_of, with_flight, IsInTime, IsOrderly, AreSmall}

-- ---- a walk

-- it takes what its steps take at least
walk-takes : (c : Conditions) (least : Step → ℕ) → ((s : Step) → IsFeasibleStep c s → s.enter + least s ≤ s.leave) → (s : Step) (steps : List Step) → IsFeasibleWalk c (s ∷ steps)
    → s.enter + sum_by least (s ∷ steps) ≤ end_of (s ∷ steps)
walk-takes c least each s [] walk = let one = each s walk in let sum = sum_by-cons least s [] in omega (arith, one, sum)
walk-takes c least each s (t ∷ steps) walk =
    let one = each s walk.0 in
    let joined = walk.1.at_once in
    let rest = walk-takes c least each t steps walk.2 in
    let sum = sum_by-cons least s (t ∷ steps) in
    omega (arith, one, joined, rest, sum)

walk-near : (c : Conditions) (s : Step) (steps : List Step) → IsFeasibleWalk c (s ∷ steps) → end_of (s ∷ steps) ≤ c.airport.horizon
walk-near c s [] walk = walk.in_time
walk-near c s (t ∷ steps) walk = walk-near c t steps walk.2

-- it ends as its last step does
last-ends : (P : Step → Type 0) (time : ℕ) → ((s : Step) → P s → s.leave ≤ time) → (steps : List Step) → AtLast P steps → end_of steps ≤ time
last-ends P time each [] at = absurd at
last-ends P time each (s ∷ []) at = each s at
last-ends P time each (s ∷ t ∷ steps) at = last-ends P time each (t ∷ steps) at

-- ---- a flight in force

pub step-least : (airport : Airport) (state : State) (flight : Flight) (s : Step) → IsFeasibleStep (conditions_of airport state flight) s → s.enter + least_for airport flight s ≤ s.leave
step-least airport state flight s made =
    let known = IsSomeAnd-value (seconds airport flight.class (segment_of s.arc)) (λ n. s.enter + n ≤ s.leave) made.lasts in
    rw known.1 known.2

orderly-walk : (airport : Airport) (rules : IsWellFormed airport) (state : State) (flight : Flight) (steps : List Step) → flight.steps ≡ steps → IsFeasibleWalk (conditions_of airport state flight) steps
    → IsInTime flight.request steps → IsOrderly airport flight
orderly-walk airport rules state flight [] is walk in_time = absurd walk
orderly-walk airport rules state flight (s ∷ steps) is walk in_time =
    let c = conditions_of airport state flight in
    let takes = walk-takes c (least_for airport flight) (step-least airport state flight) s steps walk in
    let near = walk-near c s steps walk in
    let by = rules.horizon in
    record {
      some = rw is (omega arith);
      ordered = rw is (omega (arith, takes));
      near = rw is (omega (arith, near, by));
      lasts = rw is (omega (arith, takes));
      in_time = rw is in_time;
    }

asked-in_time : (c : Conditions) (request : Request) (steps : List Step) → Meets c request steps → IsFeasibleWalk c steps × IsInTime request steps
asked-in_time c Filed steps meets = (meets, tt)
asked-in_time c (Arrival from to time hold) [] meets = absurd meets.walk
asked-in_time c (Arrival from to time hold) (s ∷ steps) meets = (meets.walk, meets.begins.not_before)
asked-in_time c (Departure from to time queue) steps meets = (meets.walk, last-ends _ time (λ s at. at.not_after) steps meets.ends)

pub orderly : (airport : Airport) → IsWellFormed airport → (state : State) → IsSound airport state → (flight : Flight) → Contains state.flights flight → IsOrderly airport flight
orderly airport rules state sound flight in_force =
    let meets = All-contains (λ (f : Flight). Meets (conditions_of airport state f) f.request f.steps) state.flights flight sound.requests in_force in
    let both = asked-in_time (conditions_of airport state flight) flight.request flight.steps meets in
    orderly-walk airport rules state flight flight.steps refl both.0 both.1

-- ---- sums

pub with-flight : (airport : Airport) (flights : List Flight) (flight : Flight) → with_flight airport (sums_of airport flights) flight ≡ sums_of airport (flights ++ flight ∷ [])
with-flight airport flights flight =
    let count : length flights + 1 ≡ length (flights ++ flight ∷ []) = let e = length-append flights (flight ∷ []) in omega (arith, e) in
    let taxied = sym (sum_by_push taxied_by flights flight) in
    let least = sym (sum_by_push (least_by airport) flights flight) in
    let shifted = sym (sum_by_push (λ f. shifted_by f.request f.steps) flights flight) in
    λ i. record { flights = count i; taxied = taxied i; least = least i; shifted = shifted i }

-- more flights may be summed up
pub small-more : (flights : ℕ) (sums : Sums) → AreSmall flights sums → AreSmall (flights + 1) sums
small-more flights sums small =
    let few = small.flights_few in
    let taxied = small.taxied_few in
    let shifted = small.shifted_few in
    record { flights_few = omega (arith, few); taxied_few = omega (arith, taxied); least_few = small.least_few; shifted_few = omega (arith, shifted) }

-- of some flights those that pass a test, and one flight more
pub filtered-yes : (p : Flight → Bool) (flights : List Flight) (k : ℕ) (flight : Flight) → slice_get flights k ≡ Some flight → p flight ≡ true
    → filter p (take (k + 1) flights) ≡ filter p (take k flights) ++ flight ∷ []
filtered-yes p flights k flight found passes =
    let there : get_or flights k flight ≡ flight = get_or_from_slice_get flights k flight flight found in
    filter_more p flights k flight (slice_get_within flights k flight found) ∙ rw there (rw passes refl)

pub filtered-no : (p : Flight → Bool) (flights : List Flight) (k : ℕ) (flight : Flight) → slice_get flights k ≡ Some flight → p flight ≡ false
    → filter p (take (k + 1) flights) ≡ filter p (take k flights)
filtered-no p flights k flight found fails =
    let there : get_or flights k flight ≡ flight = get_or_from_slice_get flights k flight flight found in
    filter_more p flights k flight (slice_get_within flights k flight found) ∙ rw there (rw fails (append-nil (filter p (take k flights))))
