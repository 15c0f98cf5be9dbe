-- Which cells are there, arc by arc, where the windows of each segment are given; and which of them are a class's places?
use Rattle.std.specs.Prelude.{ℕ, zero, suc, ◌≡◌, ◌≤◌, ◌*◌, ◌/◌, ◌&&◌, Bool, List, [], ◌++◌, length, map, is_some, slice_index_or, All}
use Rattle.taxi_base.specs.declared.numbers.Arc.{Arc}
use Rattle.taxi_base.specs.declared.numbers.Class.{Class}
use Rattle.taxi_base.specs.declared.rows.Span.{Span}
use Rattle.taxi_base.specs.Airport.{Airport, layout_of, segment_of, arc_exists, seconds}
use Rattle.taxi_base.specs.Windows.{AreApart}
use Rattle.walk_labels.specs.Places.{Place}

-- a list of windows for each segment, which lie apart in order and end by the horizon
pub record AreWindowLists (airport : Airport) (windows : List (List Span)) : Type 0 where
  pub count : length windows ≡ length airport.segments
  pub apart : All (AreApart 0) windows
  pub by : All (All (λ w. w.until ≤ airport.horizon)) windows

-- an arc with each of its windows
abbrev pub cells_of_arc : Arc → List Span → List Place
cells_of_arc arc windows = map (λ w. record { arc = arc; window = w }) windows

-- those of the first n arcs, and of all
abbrev pub cells_before : List (List Span) → ℕ → List Place
cells_before windows zero = []
cells_before windows (suc n) = cells_before windows n ++ cells_of_arc (record { 0 = n }) (slice_index_or windows (n / 2) [])

abbrev pub cells_in : List (List Span) → List Place
cells_in windows = cells_before windows (2 * length windows)

-- whether a class can use an arc: it is one of the airport's, and the class has seconds on it
abbrev pub can_use : Airport → Class → Arc → Bool
can_use airport class arc = arc_exists (layout_of airport) arc && is_some (seconds airport class (segment_of arc))
