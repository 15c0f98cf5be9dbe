use Rattle.place_cells.specs.Laid.{windows_of}
use Rattle.place_cells.proofs.LaidLaws.{AreNumberedTo}
use Rattle.place_cells.proofs.numbers.CellNumbers.laid.Given as goal

abbrev pub invariant-loop-arc : goal.invariant-loop-arc
invariant-loop-arc l = AreNumberedTo (windows_of l.store) l.arc l.spots.items l.first.items
