use Rattle.std.proofs.Common.{arith}
use Rattle.label_search.specs.Labels.{standing}
use Rattle.label_search.proofs.Leading.{first_more, first_of_all}
use Rattle.label_search.proofs.pick.first_before.Goals as goal

pub loop-run-init : goal.loop-run-init
loop-run-init g c = record { leads = c.requires.via; none = λ k x below is less so. omega (arith, below) }

pub loop-run-preserved : goal.loop-run-preserved
loop-run-preserved g c =
    let p = g.C.ForwardCells.problem c.args.cells.now in
    let known = (standing c.args.labels.now).known in
    record {
      leads = c.first_in-first.ensures.first.leads;
      none = first_more p known c.args.to c.requires.entering c.loop-run.run c.loop-run.first c.first_in-first.result c.requires.windows c.loop-run.invariant.none
          c.run_before-part.result.run c.run_before-part.ensures.part c.first_in-first.ensures.first c.first_in-first.ensures.by;
    }

pub returns : goal.returns
returns g c =
    let p = g.C.ForwardCells.problem c.args.cells.now in
    first_of_all p (standing c.args.labels.now).known c.args.to c.requires.entering c.requires.sound c.loop-run.run c.loop-run.first
    (omega (arith, c.runs_before-run-end.ensures, c.loop-run-test.false)) c.loop-run.invariant.leads c.loop-run.invariant.none
