-- The rows are those of the copied sets.
use Rattle.conflict_sets.proofs.Conflicts.build.Goals as goal

pub invariant_of-result : goal.invariant_of-result
invariant_of-result c = (rw c.in_ok-sets.ensures c.in_ok-rows.ensures.rows, rw (c.in_ok-sets.ensures, c.in_ok-rows.ensures.count) c.requires.members)
