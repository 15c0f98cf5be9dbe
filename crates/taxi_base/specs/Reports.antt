-- The rows that are told of the flights in force, and of what holds a segment.
use Rattle.std.specs.Prelude.{ℕ, ◌≡◌, ◌⊎◌, ◌↔◌, Bool, ◌&&◌, ◌||◌, ◌==◌, nat_lt, IsTrue, List, map, bytes_eq, AllPairs, Contains}
use Rattle.taxi_base.specs.declared.numbers.Segment.{Segment}
use Rattle.taxi_base.specs.declared.rows.FlightKind.{FlightKind}
use Rattle.taxi_base.specs.declared.rows.FlightKind.TheVariants as kind
use Rattle.taxi_base.specs.declared.rows.FlightRow.{FlightRow}
use Rattle.taxi_base.specs.declared.rows.HeldRow.{HeldRow}
use Rattle.taxi_base.specs.declared.answers.Request.{Request}
use Rattle.taxi_base.specs.declared.answers.Request.TheVariants.{Filed, Arrival, Departure}
use Rattle.taxi_base.specs.declared.answers.Flight.{Flight}
use Rattle.taxi_base.specs.declared.answers.Party.{Party}
use Rattle.taxi_base.specs.Airport.{Airport, conflict}
use Rattle.taxi_base.specs.Windows.{Hold}
use Rattle.taxi_base.specs.Walks.{begin_of, end_of}
use Rattle.taxi_base.specs.State.{State, name_precedes, flight_holds, party_hold}

-- ---- the flights in force

abbrev pub kind_of_request : Request → FlightKind
kind_of_request Filed = kind.Filed
kind_of_request (Arrival from to time hold) = kind.Arrival
kind_of_request (Departure from to time queue) = kind.Departure

-- a flight in short: it begins and ends with its route
abbrev pub flight_row : Flight → FlightRow
flight_row flight = record {
  flight = flight.name;
  kind = kind_of_request flight.request;
  class = flight.class;
  start = begin_of flight.steps;
  end = end_of flight.steps;
}

-- one row for each flight in force, by name
abbrev pub timetable_rows : State → List FlightRow
timetable_rows state = map flight_row state.flights

-- ---- what holds a segment

abbrev pub held_row : List ℕ → Hold → HeldRow
held_row name hold = record { from = hold.span.from; until = hold.span.until; flight = name; segment = hold.segment }

-- the row tells what a party or a flight holds
abbrev pub IsHeldRow : Airport → State → HeldRow → Type 0
IsHeldRow airport state row =
    ((p : Party) × Contains state.parties p × (row ≡ held_row p.name (party_hold p)))
    ⊎ ((f : Flight) × Contains state.flights f × (hold : Hold) × Contains (flight_holds airport f) hold × (row ≡ held_row f.name hold))

-- whether a row stands before another: by from, until, name and number of the segment
abbrev pub row_precedes : HeldRow → HeldRow → Bool
row_precedes a b =
    nat_lt a.from b.from
    || (a.from == b.from
    && (nat_lt a.until b.until
    || (a.until == b.until
    && (name_precedes a.flight b.flight || (bytes_eq a.flight b.flight && nat_lt a.segment.0 b.segment.0)))))

-- the rows of all holds of segments in conflict with a segment, in order, none twice
pub record AreHeldRows (airport : Airport) (state : State) (segment : Segment) (rows : List HeldRow) : Type 0 where
  pub ordered : AllPairs (λ a b. IsTrue (row_precedes a b)) rows
  pub whole : (row : HeldRow) → Contains rows row ↔ (IsHeldRow airport state row × IsTrue (conflict airport.conflicts segment row.segment))
