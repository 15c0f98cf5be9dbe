use Rattle.label_search.proofs.Mirroring.{go_from_mirror}
use Rattle.label_search.proofs.backward.MirrorForwardCells.place.Goals as goal

pub place-requires : goal.place-requires
place-requires g c = go_from_mirror (g.C.BackwardCells.backward c.args.self.now.cells.now) c.args.cell c.requires
