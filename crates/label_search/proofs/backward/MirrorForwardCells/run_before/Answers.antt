use Rattle.label_search.proofs.Mirroring.{part_before_in_mirror}
use Rattle.label_search.proofs.backward.MirrorForwardCells.run_before.Goals as goal

pub returns-clause-part : goal.returns-clause-part
returns-clause-part g c =
    let b = g.C.BackwardCells.backward c.args.self.now.cells.now in
    part_before_in_mirror b c.args.self.now.fits c.args.cell c.args.second (b.run_after c.args.cell c.args.run) c.run_after.result.run
    (rw c.saturating_sub.ensures at c.run_after.ensures.part)
