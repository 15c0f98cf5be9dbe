use Rattle.place_cells.specs.Grounds.{ground_of}
use Rattle.forward_search.specs.Arrivals.{beginning_of}
use Rattle.forward_search.proofs.ArrivalLaws.{come_to-usable}
use Rattle.forward_search.proofs.cells.ArrivalCellsForwardCells.tell.Goals as goal

pub row-requires : goal.row-requires
row-requires c =
    let s = c.args.self.now in
    come_to-usable (ground_of s.ground) (beginning_of s.start 0) s.to.now c.args.value.cell c.requires
