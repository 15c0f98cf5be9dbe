use Rattle.label_search.proofs.Mirroring.{go_from_mirror}
use Rattle.label_search.proofs.backward.MirrorForwardCells.tell.Goals as goal

pub tell-requires : goal.tell-requires
tell-requires g c =
    let b = g.C.BackwardCells.backward c.args.self.now.cells.now in
    rw c.mirror_value.ensures (go_from_mirror b c.args.value.cell c.requires)
