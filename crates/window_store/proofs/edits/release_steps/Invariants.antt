use Rattle.window_store.proofs.Runs.{ReleasedSoFar}
use Rattle.window_store.proofs.edits.release_steps.Given as goal

abbrev pub invariant-loop-place : goal.invariant-loop-place
invariant-loop-place g l = ReleasedSoFar l.conflicts.sets l.term.horizon l.term.clearance (g.R.OtherHolds.holds l.remaining) l.steps l.place l.initial.lists l.lists
