use Rattle.std.proofs.Common.{arith}
use Rattle.cell_lists.proofs.Lists.{list_is_problem, list_is_backward_problem}
use Rattle.cell_lists.proofs.listed_cells.are_fit.Goals as goal

pub returns-clause-forward : goal.returns-clause-forward
returns-clause-forward c _ =
    list_is_problem c.args.cells.now (λ k x lt. c.loop-cell.invariant k x (omega (arith, c.loop-cell-test.false)))

pub returns-clause-backward : goal.returns-clause-backward
returns-clause-backward c _ =
    list_is_backward_problem c.args.cells.now (λ k x lt. c.loop-cell.invariant k x (omega (arith, c.loop-cell-test.false)))
