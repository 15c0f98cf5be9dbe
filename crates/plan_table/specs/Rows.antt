-- What does a row of the plan tell of a step, or of a work party?
use Rattle.std.specs.Prelude.{ℕ, ◌-◌, Bool, true, List, [], ◌∷◌, length, slice_get, Option, Some, None, unwrap_or, codes, decimal, if◌then◌else◌}
use Rattle.std.specs.Option.{option_map_or}
use Rattle.taxi_base.specs.declared.numbers.Node.{Node}
use Rattle.taxi_base.specs.declared.numbers.Arc.{Arc}
use Rattle.taxi_base.specs.declared.rows.Step.{Step}
use Rattle.taxi_base.specs.declared.rows.FlightKind.{FlightKind}
use Rattle.taxi_base.specs.declared.rows.FlightKind.TheVariants as kind
use Rattle.taxi_base.specs.declared.answers.Flight.{Flight}
use Rattle.taxi_base.specs.declared.answers.Party.{Party}
use Rattle.taxi_base.specs.Airport.{Airport, layout_of, arc_of, segment_of, is_forward, head, tail, seconds, clearance_of, class_name, node_word}
use Rattle.taxi_base.specs.Windows.{hold_of}
use Rattle.taxi_base.specs.Reports.{kind_of_request}
use Rattle.airport_file.specs.Words.{segment_word}
use Rattle.airport_text.specs.Canonical.{Fields}
use Rattle.civil_times.specs.Later.{civil_text}
use Rattle.plan_table.specs.declared.row.PlanRow.{PlanRow}

-- the names of the nodes where an arc begins and ends
abbrev pub end_word : Airport → Option Node → List ℕ
end_word airport end = option_map_or (node_word airport) end []

abbrev pub tail_word : Airport → Arc → List ℕ
tail_word airport arc = end_word airport (tail (layout_of airport) arc)

abbrev pub head_word : Airport → Arc → List ℕ
head_word airport arc = end_word airport (head (layout_of airport) arc)

-- where a route begins, and where it ends
abbrev pub first_word : Airport → List Step → List ℕ
first_word airport steps = option_map_or (λ s. tail_word airport s.arc) (slice_get steps 0) []

abbrev pub last_word : Airport → List Step → List ℕ
last_word airport steps = option_map_or (λ s. head_word airport s.arc) (slice_get steps (length steps - 1)) []

-- the least seconds of a flight's class for a step
abbrev pub least_for : Airport → Flight → Step → ℕ
least_for airport flight step = unwrap_or (seconds airport flight.class (segment_of step.arc)) 0

-- The row of a flight's step, by its number and its slack. It waits for as long as it takes more than its class's least seconds.
unfoldable pub step_row : Airport → Flight → ℕ → Step → ℕ → PlanRow
step_row airport flight number step slack = record {
  name = flight.name;
  kind = Some (kind_of_request flight.request);
  class = class_name airport flight.class;
  from = first_word airport flight.steps;
  to = last_word airport flight.steps;
  number = number;
  segment = segment_word airport (segment_of step.arc);
  forward = Some (is_forward step.arc);
  tail = tail_word airport step.arc;
  head = head_word airport step.arc;
  enter = step.enter;
  leave = step.leave;
  until = (hold_of airport.horizon (clearance_of airport flight.class) step).span.until;
  least = least_for airport flight step;
  wait = step.leave - step.enter - least_for airport flight step;
  slack = slack;
}

-- the row of a work party, which has no class and no direction: its segment's first node and its second stand as its ends
unfoldable pub party_row : Airport → Party → ℕ → PlanRow
party_row airport party slack = record {
  name = party.name;
  kind = None;
  class = None;
  from = tail_word airport (arc_of party.segment true);
  to = head_word airport (arc_of party.segment true);
  number = 1;
  segment = segment_word airport party.segment;
  forward = None;
  tail = tail_word airport (arc_of party.segment true);
  head = head_word airport (arc_of party.segment true);
  enter = party.from;
  leave = party.until;
  until = party.until;
  least = party.until - party.from;
  wait = 0;
  slack = slack;
}

-- ---- the fields of a row

abbrev pub kind_word : Option FlightKind → List ℕ
kind_word None = codes "work"
kind_word (Some kind.Filed) = codes "filed"
kind_word (Some kind.Arrival) = codes "arrival"
kind_word (Some kind.Departure) = codes "departure"

abbrev pub direction_word : Option Bool → List ℕ
direction_word None = []
direction_word (Some forward) = if forward then codes "forward" else codes "backward"

-- a second as a number or, where a start is given, as the civil time so many seconds later
abbrev pub time_word : Option (List ℕ) → ℕ → List ℕ
time_word None second = decimal second
time_word (Some start) second = civil_text start second

unfoldable pub row_fields : Option (List ℕ) → PlanRow → Fields
row_fields start row =
    row.name ∷ kind_word row.kind ∷ unwrap_or row.class [] ∷ row.from ∷ row.to ∷ decimal row.number ∷ row.segment ∷ direction_word row.forward ∷ row.tail ∷ row.head
    ∷ time_word start row.enter ∷ time_word start row.leave ∷ time_word start row.until ∷ decimal row.least ∷ decimal row.wait ∷ decimal row.slack ∷ []

unfoldable pub header_fields : Fields
header_fields =
    codes "name" ∷ codes "kind" ∷ codes "class" ∷ codes "from" ∷ codes "to" ∷ codes "step" ∷ codes "segment" ∷ codes "direction" ∷ codes "tail" ∷ codes "head"
    ∷ codes "enter" ∷ codes "leave" ∷ codes "until" ∷ codes "least" ∷ codes "wait" ∷ codes "slack" ∷ []
