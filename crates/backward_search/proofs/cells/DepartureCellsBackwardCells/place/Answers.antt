use Rattle.place_cells.specs.Grounds.{ground_of}
use Rattle.backward_search.proofs.DepartureLaws.{go_from-usable}
use Rattle.backward_search.proofs.cells.DepartureCellsBackwardCells.place.Goals as goal

pub backward-requires : goal.backward-requires
backward-requires c =
    let s = c.args.self.now in
    go_from-usable (ground_of s.ground) s.from (record { to = s.to.now; earliest = s.earliest_out; latest = s.latest_out }) c.args.cell c.requires
