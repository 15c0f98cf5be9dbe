use Rattle.std.proofs.Common.{◌≡◌, ℕ, ◌≤◌, List, ◌++◌, map, Some}
use Rattle.label_core.specs.Walks.{Step, IsEarliestExit}
use Rattle.label_core.specs.Picked.{IsPicked}
use Rattle.label_search.specs.Labels.{label_of}
use Rattle.label_search.specs.Answer.{step_of, ComesBefore}
use Rattle.label_search.proofs.pick.pick_back.Given as goal

-- whatever is picked back from where the loop stands, after the steps so far, is picked back from the goal
abbrev pub invariant-back : goal.invariant-back
invariant-back g l =
    let p = g.C.ForwardCells.problem l.cells in
    record {
      so_far : (rest : List (Step ℕ)) → IsPicked p.network p.starts ComesBefore (IsEarliestExit p.network p.starts) l.cell l.label.value l.leave rest
          → IsPicked p.network p.starts ComesBefore (IsEarliestExit p.network p.starts) l.fn.goal.cell l.fn.goal.end l.fn.goal.end (map step_of l.steps.items ++ rest);
      labelled : label_of l.labels.known.items l.cell ≡ Some l.label;
      by_end : l.label.value ≤ l.fn.goal.end;
    }

abbrev pub decreases-back : goal.decreases-back
decreases-back g l = l.label.value
