use Rattle.label_search.specs.Labels.{standing}
use Rattle.label_search.specs.Standing.{is_settled, IsUnderway}
use Rattle.label_search.specs.Reached.{HasReached}
use Rattle.label_search.proofs.Steps.{left_below}
use Rattle.label_search.proofs.settle.settle.Given as goal

abbrev pub invariant-loop-cell : goal.invariant-loop-cell
invariant-loop-cell g l = record {
  under : IsUnderway (g.C.ForwardCells.problem l.cells) (standing l.labels);
  reached : HasReached (g.C.ForwardCells.problem l.cells) (standing l.labels) l.reached;
}

-- how many cells are not settled
abbrev pub decreases-loop-cell : goal.decreases-loop-cell
decreases-loop-cell g l = left_below (is_settled (standing l.labels)) (g.C.ForwardCells.problem l.cells).count
