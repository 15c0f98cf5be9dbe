-- Which ground is a search's?
use Rattle.place_cells.specs.declared.ground.SearchGround.{SearchGround}
use Rattle.place_cells.specs.declared.numbers.CellNumbers.{CellNumbers}
use Rattle.place_cells.specs.declared.spots.CellPlace.{CellPlace}
use Rattle.walk_labels.specs.Places.{Place}
use Rattle.place_cells.specs.Laid.{Numbers, windows_of}
use Rattle.place_cells.specs.Ground.{Ground}

abbrev pub numbers_of : CellNumbers → Numbers
numbers_of n = record { spots = n.spots.items; first = n.first.items }

abbrev pub place_of : CellPlace → Place
place_of p = record { arc = p.arc; window = p.window }

abbrev pub ground_of : SearchGround → Ground
ground_of s = record {
  layout = s.graph.now;
  table = s.classes.now.table;
  class = s.class;
  horizon = s.horizon;
  clearance = s.clearance;
  windows = windows_of s.store.now;
  numbers = numbers_of s.numbers.now;
}
