-- How many flights of a kind and a class are in force, and for how long do they taxi together?
use Rattle.std.specs.Prelude.{ℕ, ◌+◌, ◌-◌, ◌*◌, ◌<◌, ◌≤◌, ⊤, Bool, true, false, ◌&&◌, ◌==◌, List, length, sum_by}
use Rattle.taxi_base.specs.declared.numbers.Class.{Class}
use Rattle.taxi_base.specs.declared.rows.Step.{Step}
use Rattle.taxi_base.specs.declared.rows.FlightKind.{FlightKind}
use Rattle.taxi_base.specs.declared.rows.FlightKind.TheVariants as kind
use Rattle.taxi_base.specs.declared.answers.Request.{Request}
use Rattle.taxi_base.specs.declared.answers.Request.TheVariants.{Filed, Arrival, Departure}
use Rattle.taxi_base.specs.declared.answers.Flight.{Flight}
use Rattle.taxi_base.specs.Airport.{Airport}
use Rattle.taxi_base.specs.Walks.{begin_of, end_of}
use Rattle.taxi_base.specs.Reports.{kind_of_request}
use Rattle.plan_table.specs.Rows.{least_for}
use Rattle.run_figures.specs.declared.flights.Sums.{Sums}

abbrev pub is_same_kind : FlightKind → FlightKind → Bool
is_same_kind kind.Filed kind.Filed = true
is_same_kind kind.Arrival kind.Arrival = true
is_same_kind kind.Departure kind.Departure = true
is_same_kind a b = false

-- whether a flight is of a kind and a class
abbrev pub is_of : FlightKind → Class → Flight → Bool
is_of kind class flight = is_same_kind (kind_of_request flight.request) kind && (flight.class.0 == class.0)

-- for how long a flight taxies, and for how long it would at least
abbrev pub taxied_by : Flight → ℕ
taxied_by flight = end_of flight.steps - begin_of flight.steps

abbrev pub least_by : Airport → Flight → ℕ
least_by airport flight = sum_by (least_for airport flight) flight.steps

-- for how long an arrival is held before it begins, and by how much a departure is early at its node
abbrev pub shifted_by : Request → List Step → ℕ
shifted_by Filed steps = 0
shifted_by (Arrival from to time hold) steps = begin_of steps - time
shifted_by (Departure from to time queue) steps = time - end_of steps

-- the number of some flights, and the sums over them
abbrev pub sums_of : Airport → List Flight → Sums
sums_of airport flights = record {
  flights = length flights;
  taxied = sum_by taxied_by flights;
  least = sum_by (least_by airport) flights;
  shifted = sum_by (λ f. shifted_by f.request f.steps) flights;
}

-- for how long a flight waits on its steps together: each takes so much more than its class's least seconds
abbrev pub waits_of : Airport → Flight → ℕ
waits_of airport flight = sum_by (λ step. step.leave - step.enter - least_for airport flight step) flight.steps

-- a walk begins no earlier, or ends no later, than was asked for
abbrev pub IsInTime : Request → List Step → Type 0
IsInTime Filed steps = ⊤
IsInTime (Arrival from to time hold) steps = time ≤ begin_of steps
IsInTime (Departure from to time queue) steps = end_of steps ≤ time

-- What is known of each flight in force: it has a step, ends within a week and no earlier than it begins, takes no less than its class's least
-- seconds, and is in time.
pub record IsOrderly (airport : Airport) (flight : Flight) : Type 0 where
  pub some : 0 < length flight.steps
  pub ordered : begin_of flight.steps ≤ end_of flight.steps
  pub near : end_of flight.steps ≤ 604800
  pub lasts : least_by airport flight ≤ taxied_by flight
  pub in_time : IsInTime flight.request flight.steps

-- ---- for private clauses

abbrev pub with_flight : Airport → Sums → Flight → Sums
with_flight airport sums flight = record {
  flights = sums.flights + 1;
  taxied = sums.taxied + taxied_by flight;
  least = sums.least + least_by airport flight;
  shifted = sums.shifted + shifted_by flight.request flight.steps;
}

-- sums over so many flights at most, of which no number has more than 32 bits
pub record AreSmall (flights : ℕ) (sums : Sums) : Type 0 where
  pub flights_few : sums.flights ≤ flights
  pub taxied_few : sums.taxied ≤ 4294967296 * flights
  pub least_few : sums.least ≤ sums.taxied
  pub shifted_few : sums.shifted ≤ 4294967296 * flights
