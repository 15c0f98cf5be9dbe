-- Which windows of a row are not over before a second, and which have begun by another?
use Rattle.std.specs.Prelude.{ℕ, ◌<◌, ◌≤◌, List, length, slice_index_or}
use Rattle.taxi_base.specs.declared.rows.Span.{Span}
use Rattle.window_rows.specs.declared.rows.Part.{Part}

abbrev pub no_window : Span
no_window = record { from = 0; until = 0 }

-- the window at a place of a row
abbrev pub window_at : List Span → ℕ → Span
window_at row k = slice_index_or row k no_window

-- so many windows of a row end before a second, and the others don't
pub record IsFirstNotOver (row : List Span) (second n : ℕ) : Type 0 where
  pub few : n ≤ length row
  pub over : (k : ℕ) → k < n → (window_at row k).until < second
  pub rest : (k : ℕ) → n ≤ k → k < length row → second ≤ (window_at row k).until

-- whether a part has the window at a place
pub record IsInPart (part : Part) (k : ℕ) : Type 0 where
  pub from_first : part.first ≤ k
  pub until_end : k < part.until

-- the part has just those windows of the row that do not end before `low` nor begin after `high`
pub record IsCut (row : List Span) (low high : ℕ) (part : Part) : Type 0 where
  pub ordered : part.first ≤ part.until
  pub within : part.until ≤ length row
  pub whole : (k : ℕ) → k < length row → low ≤ (window_at row k).until → (window_at row k).from ≤ high → IsInPart part k
  pub only : (k : ℕ) → IsInPart part k → (low ≤ (window_at row k).until) × ((window_at row k).from ≤ high)
