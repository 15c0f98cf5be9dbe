-- Which network are the cells for a class, in the windows of segments?
use Rattle.std.specs.Prelude.{ℕ, ◌≡◌, ◌+◌, ◌-◌, ◌/◌, ◌<◌, ◌≤◌, ◌^◌, Bool, ◌&&◌, ◌==◌, nat_lt, if◌then◌else◌, IsTrue, List, [], length, map, slice_index_or, Some, Option, is_some, unwrap_or, All}
use Rattle.taxi_base.specs.declared.numbers.Arc.{Arc}
use Rattle.taxi_base.specs.declared.numbers.Class.{Class}
use Rattle.taxi_base.specs.declared.numbers.Segment.{Segment}
use Rattle.taxi_base.specs.declared.rows.Span.{Span}
use Rattle.taxi_base.specs.Windows.{AreApart}
use Rattle.taxi_base.specs.Airport.{Airport, Layout, layout_of, times_of, segment_of, arc_exists, permits, seconds_in}
use Rattle.label_core.specs.Walks.{Network}
use Rattle.label_search.specs.declared.cells.Run.{Run}
use Rattle.label_search.specs.Problem.{IsIn}
use Rattle.walk_labels.specs.Places.{Place, place_at, is_numbered}
use Rattle.place_cells.specs.Laid.{Numbers, first_in, place_of_spot, AreNumbered, HaveNumbers}

-- the arcs, the times of the classes and the class, up to when steps may hold, each segment's windows, and the cells' numbers
pub record Ground : Type 0 where
  pub layout : Layout
  pub table : List (List (Option ℕ))
  pub class : Class
  pub horizon : ℕ
  pub clearance : ℕ
  pub windows : List (List Span)
  pub numbers : Numbers

-- that of an airport's class in windows
abbrev pub ground_in : Airport → Class → ℕ → List (List Span) → Numbers → Ground
ground_in airport class clearance windows numbers = record {
  layout = layout_of airport;
  table = times_of airport;
  class = class;
  horizon = airport.horizon;
  clearance = clearance;
  windows = windows;
  numbers = numbers;
}

-- the arc and the window of each number
abbrev pub cells_of : Ground → List Place
cells_of g = map (place_of_spot g.windows) g.numbers.spots

-- the numbers of an arc's windows
abbrev pub run_of_arc : Ground → Arc → Run
run_of_arc g arc = record {
  first = first_in g.numbers.first arc.0;
  until = first_in g.numbers.first arc.0 + length (slice_index_or g.windows (arc.0 / 2) []);
}

-- the class's seconds on a segment
abbrev pub seconds_on : Ground → Segment → Option ℕ
seconds_on g s = seconds_in g.table g.class s

-- the last second at which a step may leave in a window
abbrev pub last_in : ℕ → ℕ → Span → ℕ
last_in horizon clearance w = if w.until == horizon then horizon else w.until - clearance

abbrev pub arc_in : Ground → ℕ → Arc
arc_in g k = (place_at (cells_of g) k).arc

abbrev pub window_in : Ground → ℕ → Span
window_in g k = (place_at (cells_of g) k).window

-- whether the class can use an arc, and whether a number is that of a cell: the class can use its arc, and its window is not empty
abbrev pub can_use_in : Ground → Arc → Bool
can_use_in g arc = arc_exists g.layout arc && is_some (seconds_on g (segment_of arc))

abbrev pub usable_in : Ground → ℕ → Bool
usable_in g k = is_numbered (λ j. can_use_in g (arc_in g j) && nat_lt (window_in g j).from (window_in g j).until) (cells_of g) k

abbrev pub network_in : Ground → Network ℕ
network_in g = record {
  from = λ k. (window_in g k).from;
  last = λ k. last_in g.horizon g.clearance (window_in g k);
  seconds = λ k. unwrap_or (seconds_on g (segment_of (arc_in g k))) 1;
  turn = λ j k. usable_in g j && usable_in g k && permits g.layout (arc_in g j) (arc_in g k);
}

-- The times are from a second to an hour, there are windows for each segment, none ends after the horizon, and that is small.
-- The numbers are in blocks, one for each arc, that have room for its windows.
pub record IsSound (g : Ground) : Type 0 where
  pub timed : (s : Segment) (n : ℕ) → seconds_on g s ≡ Some n → (1 ≤ n) × (n ≤ 3600)
  pub lists : length g.windows ≡ length g.layout.links
  pub by : All (All (λ w. w.until ≤ g.horizon)) g.windows
  pub small : g.horizon < 2 ^ 31
  pub apart : All (AreApart 0) g.windows
  pub numbered : AreNumbered g.numbers.spots g.numbers.first
  pub room : HaveNumbers g.windows g.numbers.first

-- the part is of cells of the arc, and has each that does not end before `low` nor begin after `high`, if the class can use the arc
pub record IsArcPart (g : Ground) (arc : Arc) (low high : ℕ) (part : Run) : Type 0 where
  pub within : (k : ℕ) → IsIn part k → IsIn (run_of_arc g arc) k × IsTrue (usable_in g k)
  pub whole : (k : ℕ) → IsIn (run_of_arc g arc) k → IsTrue (can_use_in g arc) → low ≤ (window_in g k).until → (window_in g k).from ≤ high → IsIn part k
