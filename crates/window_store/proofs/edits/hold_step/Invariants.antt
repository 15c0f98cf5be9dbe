use Rattle.std.proofs.Common.{take}
use Rattle.std.specs.Prelude.{Contains}
use Rattle.taxi_base.specs.Windows.{hold_of}
use Rattle.window_store.specs.Edits.{ChangesEach, IsHeld}
use Rattle.window_store.proofs.edits.hold_step.Given as goal

abbrev pub invariant-loop-segment : goal.invariant-loop-segment
invariant-loop-segment l = ChangesEach (Contains (take l.segment-index l.segment-items)) (IsHeld (hold_of l.fn.term.horizon l.fn.term.clearance l.step).span) l.initial.lists l.lists
