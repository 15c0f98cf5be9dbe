use Rattle.label_search.proofs.Mirroring.{part_in_mirror}
use Rattle.label_search.proofs.backward.MirrorForwardCells.run.Goals as goal

pub returns-clause-part : goal.returns-clause-part
returns-clause-part g c =
    let b = g.C.BackwardCells.backward c.args.self.now.cells.now in
    part_in_mirror b c.args.self.now.fits c.args.cell c.args.ready c.args.last (b.run (b.number c.args.cell c.args.run)) c.run_before.result.run
    (rw (c.saturating_sub-until.ensures, c.saturating_sub-from.ensures) at c.run_before.ensures.part)
