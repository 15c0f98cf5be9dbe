use Rattle.std.proofs.Common.{◌-◌}
use Rattle.label_core.proofs.MirroredWalks.{finish_entry_from_mirror}
use Rattle.label_search.specs.Problem.{CanBegin}
use Rattle.label_search.specs.Backward.{mirror_second, mirror_problem, CanEnd}
use Rattle.label_search.proofs.Begins.{part_with_fewer}
use Rattle.label_search.proofs.backward.MirrorForwardCells.first_run.Goals as goal

pub returns : goal.returns
returns g c =
    let b = g.C.BackwardCells.backward c.args.self.now.cells.now in
    part_with_fewer (CanEnd b) (CanBegin (mirror_problem b)) (b.last_run c.args.run) c.last_run.result
    (λ x e. (mirror_second - e.0, finish_entry_from_mirror b.network b.finishes mirror_second c.args.self.now.fits x e.0 e.1)) c.last_run.ensures
