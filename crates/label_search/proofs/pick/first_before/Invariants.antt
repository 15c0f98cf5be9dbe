use Rattle.std.proofs.Common.{ℕ, ◌<◌}
use Rattle.label_search.specs.Labels.{standing}
use Rattle.label_search.specs.Problem.{IsIn}
use Rattle.label_search.specs.Entering.{LeadsTo}
use Rattle.label_search.proofs.pick.first_before.Given as goal

-- no cell of the runs before that leads there is before the first
abbrev pub invariant-loop-run : goal.invariant-loop-run
invariant-loop-run g l =
    let p = g.C.ForwardCells.problem l.cells in
    let known = (standing l.labels).known in
    record {
      leads : LeadsTo p known l.to l.first;
      none : (k x : ℕ) → k < l.run → IsIn (p.run_before l.to.cell k) x → x < l.first → LeadsTo p known l.to x → ⊥;
    }
