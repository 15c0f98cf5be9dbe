use Rattle.std.proofs.Common.{◌≡◌, ℕ, ◌<◌, length}
use Rattle.label_search.specs.Labels.{standing}
use Rattle.label_search.specs.Problem.{IsIn}
use Rattle.label_search.specs.Expanding.{IsExpanded}
use Rattle.label_search.specs.Reached.{AreReached}
use Rattle.label_search.proofs.expand.expand.Given as goal

-- the cells of the runs before the next one have labels as good as their expansions
abbrev pub invariant-loop-run : goal.invariant-loop-run
invariant-loop-run g l =
    let p = g.C.ForwardCells.problem l.cells in
    record {
      expanded : IsExpanded p.network l.from.cell l.from.at (λ d. (k : ℕ) × (k < l.run) × IsIn (p.run (p.number l.from.cell k)) d) (standing l.fn.labels) (standing l.labels);
      numbers : length l.reached ≡ length l.fn.reached;
      reached : AreReached p (standing l.labels).known l.from.at l.reached;
    }
