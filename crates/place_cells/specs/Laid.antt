-- Which numbers have cells? Each arc has a block of them: first those of its segment's windows in order, then those left over.
use Rattle.std.specs.Prelude.{ℕ, suc, ◌≡◌, ◌+◌, ◌*◌, ◌/◌, ◌≤◌, ◌<◌, List, [], length, map, slice_index_or}
use Rattle.taxi_base.specs.declared.rows.Span.{Span}
use Rattle.interval_list.specs.Intervals.{spans_of}
use Rattle.window_store.specs.Store.{Store}
use Rattle.window_store.specs.Rows.{no_span}
use Rattle.walk_labels.specs.Places.{Place}
use Rattle.place_cells.specs.declared.spots.Spot.{Spot}

-- the windows of a store, segment by segment
abbrev pub windows_of : Store → List (List Span)
windows_of store = map (λ l. spans_of l.intervals.windows) store.lists

-- the spot of each number, and the first number of each arc's block and of the end
pub record Numbers : Type 0 where
  pub spots : List Spot
  pub first : List ℕ

abbrev pub no_spot : Spot
no_spot = record { arc = record { 0 = 0 }; window = 0 }

abbrev pub spot_in : List Spot → ℕ → Spot
spot_in spots k = slice_index_or spots k no_spot

abbrev pub first_in : List ℕ → ℕ → ℕ
first_in first arc = slice_index_or first arc 0

-- Blocks follow one another. A number is that of the spot whose place it has in the block of its arc.
pub record AreNumbered (spots : List Spot) (first : List ℕ) : Type 0 where
  -- an arc's block begins no sooner than those of the arcs before it
  pub rising : (a b : ℕ) → a ≤ b → b < length first → first_in first a ≤ first_in first b
  -- it begins by the end of all spots
  pub inside : (a : ℕ) → a < length first → first_in first a ≤ length spots
  -- the number at place j of the block of arc a is that of the spot of a and j
  pub block : (a j : ℕ) → suc a < length first → first_in first a + j < first_in first (suc a) → spot_in spots (first_in first a + j) ≡ record { arc = record { 0 = a }; window = j }
  -- and the spot of a number says in which block it lies, and at which place
  pub own : (k : ℕ) → k < length spots
      → (suc (spot_in spots k).arc.0 < length first) × (first_in first (spot_in spots k).arc.0 + (spot_in spots k).window ≡ k) × (k < first_in first (suc (spot_in spots k).arc.0))

-- each arc has numbers for the windows of its segment
pub record HaveNumbers (windows : List (List Span)) (first : List ℕ) : Type 0 where
  pub arcs : length first ≡ suc (2 * length windows)
  pub room : (a : ℕ) → a < 2 * length windows → first_in first a + length (slice_index_or windows (a / 2) []) ≤ first_in first (suc a)

-- the window of a spot: an empty one where there is none
abbrev pub window_of_spot : List (List Span) → Spot → Span
window_of_spot windows spot = slice_index_or (slice_index_or windows (spot.arc.0 / 2) []) spot.window no_span

-- the arc of a spot with its window
abbrev pub place_of_spot : List (List Span) → Spot → Place
place_of_spot windows spot = record { arc = spot.arc; window = window_of_spot windows spot }
