use Rattle.label_search.specs.Problem.{CanBegin}
use Rattle.label_search.specs.Cut.{cut_problem}
use Rattle.label_search.proofs.Begins.{part_with_fewer}
use Rattle.label_search.proofs.CutLaws.{entry_of_cut}
use Rattle.label_search.proofs.cut.CutCellsForwardCells.first_run.Goals as goal

pub returns : goal.returns
returns g c =
    let p = g.C.ForwardCells.problem c.args.self.now.cells.now in
    let until = c.args.self.now.until in
    part_with_fewer (CanBegin p) (CanBegin (cut_problem until p)) (p.first_run c.args.run) c.first_run.result
    (λ x e. (e.0, entry_of_cut until p.network p.starts x e.0 e.1)) c.first_run.ensures
