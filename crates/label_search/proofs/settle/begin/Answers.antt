use Rattle.std.proofs.Common.{arith}
use Rattle.label_search.specs.Labels.{standing}
use Rattle.label_search.specs.Begun.{InRuns}
use Rattle.label_search.proofs.Begins.{begun_none, begun_all}
use Rattle.label_search.proofs.settle.begin.Goals as goal

pub loop-run-init : goal.loop-run-init
loop-run-init g c =
    let p = g.C.ForwardCells.problem c.args.cells.now in
    begun_none p (InRuns p 0) (standing c.args.labels.now) (λ x is. omega (arith, is.1)) c.requires.room c.requires.unlabelled c.requires.unqueued

pub returns : goal.returns
returns g c =
    let p = g.C.ForwardCells.problem c.args.cells.now in
    begun_all p (InRuns p c.loop-run.run) (standing c.loop-run.labels)
    (λ x t e. (let k = c.requires.sound.starts_in_runs x e.start e.here in (k.0, omega (arith, k.1, c.first_runs-run-end.ensures, c.loop-run-test.false), k.2)))
    c.loop-run.invariant
