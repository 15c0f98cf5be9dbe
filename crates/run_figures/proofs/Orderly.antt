-- No difference in the figures is negative where the state is sound.
use Rattle.std.proofs.Common.{ℕ, ◌≤◌, List, [], ◌∷◌, get_or, arith}
use Rattle.std.specs.Prelude.{All, filter, sum_by}
use Rattle.std.proofs.lemmas.List.Elements.{All-nil, All-head, All-tail, All-append, All-map, All-filter, All-weaker, Contains-get_or}
use Rattle.std.proofs.lemmas.List.Sums.{sum_by-cons}
use Rattle.taxi_base.specs.declared.numbers.Class.{Class}
use Rattle.taxi_base.specs.declared.rows.FlightKind.{FlightKind}
use Rattle.taxi_base.specs.declared.answers.Flight.{Flight}
use Rattle.taxi_base.specs.Airport.{Airport, IsWellFormed, clearance_of}
use Rattle.taxi_base.specs.Windows.{Hold, hold_of}
use Rattle.taxi_base.specs.State.{State, flight_holds, flights_hold, IsSound}
use Rattle.run_figures.specs.Flights.{is_of, taxied_by, least_by, sums_of, IsOrderly}
use Rattle.run_figures.specs.Busy.{IsTimely, AreTimely}
use Rattle.run_figures.proofs.FlightLaws.{orderly}
use Rattle.run_figures.proofs.BusyLaws.{timely}

-- ---- flights

pub all-orderly : (airport : Airport) (state : State) → IsWellFormed airport → IsSound airport state → All (IsOrderly airport) state.flights
all-orderly airport state rules sound = λ k d low. orderly airport rules state sound (get_or state.flights k d) (Contains-get_or state.flights k d low)

sums-ordered : (f g : Flight → ℕ) (flights : List Flight) → All (λ x. f x ≤ g x) flights → sum_by f flights ≤ sum_by g flights
sums-ordered f g [] each = omega arith
sums-ordered f g (x ∷ flights) each =
    let rest = sums-ordered f g flights (All-tail (λ y. f y ≤ g y) x flights each) in
    let one = All-head (λ y. f y ≤ g y) x flights each in
    let few = sum_by-cons f x flights in
    let many = sum_by-cons g x flights in
    omega (arith, rest, one, few, many)

pub least-taxied : (airport : Airport) (state : State) → IsWellFormed airport → IsSound airport state → (kind : FlightKind) (class : Class)
    → (sums_of airport (filter (is_of kind class) state.flights)).least ≤ (sums_of airport (filter (is_of kind class) state.flights)).taxied
least-taxied airport state rules sound kind class =
    sums-ordered (least_by airport) taxied_by (filter (is_of kind class) state.flights)
    (All-filter (is_of kind class) (λ f. least_by airport f ≤ taxied_by f) state.flights
    (All-weaker (IsOrderly airport) (λ f. least_by airport f ≤ taxied_by f) (λ f known. known.lasts) state.flights (all-orderly airport state rules sound)))

-- ---- what they hold

abbrev IsForward : Hold → Type 0
IsForward hold = hold.span.from ≤ hold.span.until

own-forward : (airport : Airport) (flight : Flight) → AreTimely airport flight.steps → All IsForward (flight_holds airport flight)
own-forward airport flight timely =
    All-map IsForward (hold_of airport.horizon (clearance_of airport flight.class)) flight.steps
    (All-weaker (IsTimely airport) (λ s. IsForward (hold_of airport.horizon (clearance_of airport flight.class) s))
    (λ s is. let ordered = is.ordered in let near = is.near in omega (arith, ordered, near)) flight.steps timely)

all-forward : (airport : Airport) (flights : List Flight) → All (λ f. All IsForward (flight_holds airport f)) flights → All IsForward (flights_hold airport flights)
all-forward airport [] each = All-nil IsForward
all-forward airport (flight ∷ flights) each =
    All-append IsForward (flight_holds airport flight) (flights_hold airport flights) (All-head (λ f. All IsForward (flight_holds airport f)) flight flights each)
    (all-forward airport flights (All-tail (λ f. All IsForward (flight_holds airport f)) flight flights each))

pub holds-forward : (airport : Airport) (state : State) → IsWellFormed airport → IsSound airport state → All (λ hold. hold.span.from ≤ hold.span.until) (flights_hold airport state.flights)
holds-forward airport state rules sound =
    all-forward airport state.flights
    (λ k d low. own-forward airport (get_or state.flights k d) (timely airport rules state sound (get_or state.flights k d) (Contains-get_or state.flights k d low)))
