use Rattle.std.proofs.Common.{◌<◌, ◌≤◌}
use Rattle.label_search.specs.Labels.{standing}
use Rattle.label_search.specs.Expanding.{IsExpanded}
use Rattle.label_search.proofs.expand.expand_run.Given as goal

-- the cells of the run before the next one were offered their expansions
abbrev pub invariant-loop-next : goal.invariant-loop-next
invariant-loop-next g l =
    IsExpanded (g.C.ForwardCells.problem l.cells).network l.from.cell l.from.at (λ d. (l.fn.run.first ≤ d) × (d < l.next)) (standing l.fn.labels) (standing l.labels)
