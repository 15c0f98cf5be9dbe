use Rattle.label_search.specs.Labels.{standing}
use Rattle.label_search.specs.Begun.{IsBegun, InRuns}
use Rattle.label_search.proofs.settle.begin.Given as goal

abbrev pub invariant-loop-run : goal.invariant-loop-run
invariant-loop-run g l = IsBegun (g.C.ForwardCells.problem l.cells) (InRuns (g.C.ForwardCells.problem l.cells) l.run) (standing l.labels)
