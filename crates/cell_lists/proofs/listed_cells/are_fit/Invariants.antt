use Rattle.std.proofs.Common.{ℕ, ◌<◌, length, get_or}
use Rattle.cell_lists.specs.declared.listed_cells.ListedCell.{ListedCell}
use Rattle.cell_lists.specs.Listed.{IsFit}
use Rattle.cell_lists.proofs.listed_cells.are_fit.Given as goal

-- the cells so far are fit
abbrev pub invariant-loop-cell : goal.invariant-loop-cell
invariant-loop-cell l = (k : ℕ) (x : ListedCell) → k < l.cell-index → IsFit (length l.cells) (get_or l.cells k x)
