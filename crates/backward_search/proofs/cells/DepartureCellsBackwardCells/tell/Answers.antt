use Rattle.place_cells.specs.Grounds.{ground_of}
use Rattle.backward_search.proofs.DepartureLaws.{go_from-usable}
use Rattle.backward_search.proofs.cells.DepartureCellsBackwardCells.tell.Goals as goal

pub row-requires : goal.row-requires
row-requires c =
    let s = c.args.self.now in
    go_from-usable (ground_of s.ground) s.from (record { to = s.to.now; earliest = s.earliest_out; latest = s.latest_out }) c.args.value.cell c.requires
