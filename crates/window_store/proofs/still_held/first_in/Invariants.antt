use Rattle.std.proofs.Common.{take}
use Rattle.taxi_base.specs.Windows.{holds_of}
use Rattle.window_store.specs.Held.{IsFirstHeld}
use Rattle.window_store.specs.Conflicting.{spans_in_conflict}
use Rattle.window_store.proofs.still_held.first_in.Given as goal

abbrev pub invariant-loop-step : goal.invariant-loop-step
invariant-loop-step l = IsFirstHeld (spans_in_conflict l.conflicts.sets l.segment (holds_of l.term.horizon l.term.clearance (take l.step-index l.steps))) l.from l.until l.first
