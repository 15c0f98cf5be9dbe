use Rattle.std.proofs.Common.{take}
use Rattle.taxi_base.specs.Windows.{holds_of}
use Rattle.window_store.specs.Conflicting.{spans_in_conflict, ReachesUpTo}
use Rattle.window_store.proofs.still_held.end_in.Given as goal

abbrev pub invariant-loop-step : goal.invariant-loop-step
invariant-loop-step l = ReachesUpTo (spans_in_conflict l.conflicts.sets l.segment (holds_of l.term.horizon l.term.clearance (take l.step-index l.steps))) l.from l.until
