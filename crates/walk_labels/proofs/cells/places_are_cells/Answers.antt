use Rattle.walk_labels.proofs.PlaceCells.{numbered-cells, numbered-ordered}
use Rattle.walk_labels.proofs.PlacesMade.{cells_in-are}
use Rattle.walk_labels.proofs.cells.places_are_cells.Goals as goal

pub returns-clause-numbered : goal.returns-clause-numbered
returns-clause-numbered c = numbered-cells

pub returns-clause-ordered : goal.returns-clause-ordered
returns-clause-ordered c = numbered-ordered

pub returns-clause-listed : goal.returns-clause-listed
returns-clause-listed c airport class clearance windows = cells_in-are airport class windows clearance
