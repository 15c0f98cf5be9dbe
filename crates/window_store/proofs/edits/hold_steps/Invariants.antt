use Rattle.std.proofs.Common.{take}
use Rattle.window_store.specs.Edits.{AreHeld}
use Rattle.window_store.proofs.edits.hold_steps.Given as goal

abbrev pub invariant-loop-step : goal.invariant-loop-step
invariant-loop-step l = AreHeld l.conflicts.sets l.term.horizon l.term.clearance (take l.step-index l.steps) l.initial.lists l.lists
