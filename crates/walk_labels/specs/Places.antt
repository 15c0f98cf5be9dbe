-- Where can a class be, and when? At its places, each an arc with one window of its segment; and which network of cells
-- are they?
use Rattle.std.specs.Prelude.{ℕ, ◌≡◌, ◌≤◌, ◌<◌, ◌↔◌, Bool, ◌&&◌, ◌||◌, ◌==◌, nat_lt, IsTrue, List, length, Some, is_some, unwrap_or, slice_index_or, Contains, if◌then◌else◌}
use Rattle.std.specs.List.{list_any}
use Rattle.taxi_base.specs.declared.numbers.Segment.{Segment}
use Rattle.taxi_base.specs.declared.numbers.Arc.{Arc}
use Rattle.taxi_base.specs.declared.rows.Span.{Span}
use Rattle.taxi_base.specs.declared.rows.LabelRow.{LabelRow}
use Rattle.taxi_base.specs.Airport.{layout_of, segment_of, arc_exists, permits, seconds}
use Rattle.taxi_base.specs.Windows.{IsWindow, windows_before}
use Rattle.taxi_base.specs.Walks.{Conditions, IsBounded, last_of}
use Rattle.label_core.specs.Walks.{Network}

-- nothing is free from the horizon on, and the class takes a second or longer on each segment
pub record AreFit (c : Conditions) : Type 0 where
  pub shut : IsBounded c
  pub timed : (s : Segment) (n : ℕ) → seconds c.airport c.class s ≡ Some n → 1 ≤ n

-- an arc, and a span of its segment
pub record Place : Type 0 where
  pub arc : Arc
  pub window : Span

-- the arc is one of the airport's, the class has seconds on it, and the span is a window of its segment
pub record IsPlace (c : Conditions) (p : Place) : Type 0 where
  pub on_arc : IsTrue (arc_exists (layout_of c.airport) p.arc)
  pub timed : IsTrue (is_some (seconds c.airport c.class (segment_of p.arc)))
  pub window : IsWindow (c.free (segment_of p.arc)) p.window

-- a place with a value is a label
abbrev pub label_at : Place → ℕ → LabelRow
label_at p value = record { arc = p.arc; from = p.window.from; until = p.window.until; value = value }

abbrev pub place_of : LabelRow → Place
place_of label = record { arc = label.arc; window = record { from = label.from; until = label.until } }

-- ---- their network

-- each cell that is at a place has the place's times, each place has one cell, and cells follow one another as their arcs do
pub record AreCells {C : Type 0} (c : Conditions) (net : Network C) (place : C → Place) : Type 0 where
  pub whole : (p : Place) → IsPlace c p → (x : C) × (place x ≡ p)
  pub once : (x y : C) → IsPlace c (place x) → place x ≡ place y → x ≡ y
  pub from : (x : C) → IsPlace c (place x) → net.from x ≡ (place x).window.from
  pub last : (x : C) → IsPlace c (place x) → net.last x ≡ last_of c (place x).window
  pub takes : (x : C) → IsPlace c (place x) → seconds c.airport c.class (segment_of (place x).arc) ≡ Some (net.seconds x)
  pub turn : (x y : C) → IsTrue (net.turn x y) ↔ (IsPlace c (place x) × IsPlace c (place y) × IsTrue (permits (layout_of c.airport) (place x).arc (place y).arc))

-- the cells' order is that of their arcs, and then that of their windows
abbrev pub place_precedes : Place → Place → Bool
place_precedes p q = nat_lt p.arc.0 q.arc.0 || (p.arc.0 == q.arc.0 && nat_lt p.window.from q.window.from)

abbrev pub IsOrdered : {C : Type 0} → Conditions → (C → Place) → (C → C → Type 0) → Type 0
IsOrdered {C} c place Before = (x y : C) → IsPlace c (place x) → IsPlace c (place y) → Before x y ↔ IsTrue (place_precedes (place x) (place y))

-- ---- cells by their numbers

-- what stands for a number past the last
abbrev pub no_place : Place
no_place = record { arc = record { 0 = 0 }; window = record { from = 0; until = 0 } }

abbrev pub place_at : List Place → ℕ → Place
place_at cells k = slice_index_or cells k no_place

-- Each number has an arc and a span, and those of a test are the places, all of them and in order. Which numbers are left
-- over, and what they have, is free.
pub record ArePlaces (c : Conditions) (usable : ℕ → Bool) (cells : List Place) : Type 0 where
  pub exact : (k : ℕ) → k < length cells → IsTrue (usable k) ↔ IsPlace c (place_at cells k)
  pub ordered : (j k : ℕ) → j < k → k < length cells → IsTrue (usable j) → IsTrue (usable k) → IsTrue (place_precedes (place_at cells j) (place_at cells k))
  pub whole : (p : Place) → IsPlace c p → Contains cells p

-- the seconds that the class takes on an arc
abbrev pub seconds_at : Conditions → Arc → ℕ
seconds_at c arc = unwrap_or (seconds c.airport c.class (segment_of arc)) 1

-- whether a number is one of the test's
abbrev pub is_numbered : (ℕ → Bool) → List Place → ℕ → Bool
is_numbered usable cells k = nat_lt k (length cells) && usable k

-- the cells are the numbers
abbrev pub numbered : Conditions → (ℕ → Bool) → List Place → Network ℕ
numbered c usable cells = record {
  from = λ k. (place_at cells k).window.from;
  last = λ k. last_of c (place_at cells k).window;
  seconds = λ k. seconds_at c (place_at cells k).arc;
  turn = λ j k. is_numbered usable cells j && is_numbered usable cells k && permits (layout_of c.airport) (place_at cells j).arc (place_at cells k).arc;
}

-- ---- the places themselves as cells

-- whether it is a place
abbrev pub is_place : Conditions → Place → Bool
is_place c p =
    arc_exists (layout_of c.airport) p.arc && is_some (seconds c.airport c.class (segment_of p.arc))
    && list_any (λ w. w.from == p.window.from && w.until == p.window.until) (windows_before (c.free (segment_of p.arc)) c.airport.horizon)

abbrev pub network_of : Conditions → Network Place
network_of c = record {
  from = λ p. if is_place c p then p.window.from else 0;
  last = λ p. if is_place c p then last_of c p.window else 0;
  seconds = λ p. seconds_at c p.arc;
  turn = λ p q. is_place c p && is_place c q && permits (layout_of c.airport) p.arc q.arc;
}
