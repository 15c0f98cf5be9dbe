-- What is told of cells that are read once?
use Rattle.std.specs.Prelude.{ℕ, ◌≡◌, ◌-◌, ◌<◌, ◌≤◌, IsTrue, List, length}
use Rattle.taxi_base.specs.declared.numbers.Arc.{Arc}
use Rattle.window_store.specs.Rows.{span_in}
use Rattle.walk_labels.specs.Places.{place_at}
use Rattle.place_cells.specs.declared.spots.ArcRow.{ArcRow}
use Rattle.place_cells.specs.declared.spots.Beside.{Beside}
use Rattle.place_cells.specs.Turns.{next_arcs, previous_arcs}
use Rattle.place_cells.specs.Ground.{Ground, cells_of, arc_in, usable_in, window_in, network_in}
use Rattle.place_cells.specs.Grounds.{place_of}

-- the cell's window is that of its place in the row, and the seconds are the row's
pub record TellsCell (g : Ground) (row : ArcRow) (cell : ℕ) : Type 0 where
  pub from_first : row.first ≤ cell
  pub within : cell - row.first < length row.windows.now
  pub window : span_in row.windows.now (cell - row.first) ≡ window_in g cell
  pub seconds : row.seconds ≡ (network_in g).seconds cell

-- the number is that of a cell, the arc and the window are the cell's, and beside it are these arcs
pub record IsBeside (g : Ground) (cell : ℕ) (may : List Arc) (b : Beside) : Type 0 where
  pub usable : IsTrue (usable_in g cell)
  pub place : place_of b.place ≡ place_at (cells_of g) cell
  pub arcs : b.arcs.now ≡ may

-- beside it are those that may follow
abbrev pub IsOnward : Ground → ℕ → Beside → Type 0
IsOnward g cell b = IsBeside g cell (next_arcs g.layout (arc_in g cell)) b

-- beside it are those that may come before
abbrev pub IsBackward : Ground → ℕ → Beside → Type 0
IsBackward g cell b = IsBeside g cell (previous_arcs g.layout (arc_in g cell)) b
