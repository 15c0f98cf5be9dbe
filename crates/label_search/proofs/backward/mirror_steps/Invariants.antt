use Rattle.std.proofs.Common.{◌≡◌, ◌++◌, map, take, drop}
use Rattle.label_search.specs.Backward.{mirror_cell_step}
use Rattle.label_search.proofs.backward.mirror_steps.Given as goal

abbrev pub invariant-loop-at : goal.invariant-loop-at
invariant-loop-at l = l.steps.items ≡ map mirror_cell_step (take l.at l.initial.steps.items) ++ drop l.at l.initial.steps.items
