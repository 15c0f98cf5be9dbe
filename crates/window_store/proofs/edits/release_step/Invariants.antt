use Rattle.std.proofs.Common.{take}
use Rattle.std.specs.Prelude.{Contains}
use Rattle.window_store.specs.Edits.{ChangesEach, IsReleased}
use Rattle.window_store.proofs.edits.release_step.Given as goal

abbrev pub invariant-loop-segment : goal.invariant-loop-segment
invariant-loop-segment g l = ChangesEach (Contains (take l.segment-index l.segment-items)) (IsReleased l.conflicts.sets l.term.horizon l.term.clearance (g.R.OtherHolds.holds l.remaining) l.steps l.place) l.initial.lists l.lists
