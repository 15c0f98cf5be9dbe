use Rattle.std.proofs.Common.{◌<◌, ◌≤◌, ◌⊎◌}
use Rattle.label_search.specs.Labels.{standing}
use Rattle.label_search.specs.Begun.{IsBegun, InRuns}
use Rattle.label_search.proofs.settle.begin_run.Given as goal

-- the cells of the runs before are done, and those of the part before the next one
abbrev pub invariant-loop-cell : goal.invariant-loop-cell
invariant-loop-cell g l =
    record {
      from_first : l.initial.cell ≤ l.cell;
      begun : IsBegun (g.C.ForwardCells.problem l.cells) (λ c. InRuns (g.C.ForwardCells.problem l.cells) l.fn.run c ⊎ (l.initial.cell ≤ c) × (c < l.cell)) (standing l.labels);
    }
