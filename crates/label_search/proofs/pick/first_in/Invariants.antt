use Rattle.std.proofs.Common.{ℕ, ◌<◌, ◌≤◌}
use Rattle.label_search.specs.Labels.{standing}
use Rattle.label_search.specs.Entering.{LeadsTo}
use Rattle.label_search.proofs.pick.first_in.Given as goal

-- no cell of the part before the next one leads there
abbrev pub invariant-loop-before : goal.invariant-loop-before
invariant-loop-before g l = record {
  from_first : l.fn.part.run.first ≤ l.before;
  none : (x : ℕ) → l.fn.part.run.first ≤ x → x < l.before → LeadsTo (g.C.ForwardCells.problem l.cells) (standing l.labels).known l.to x → ⊥;
}
