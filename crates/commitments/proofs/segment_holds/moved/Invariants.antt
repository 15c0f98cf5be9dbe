use Rattle.std.proofs.Common.{◌≡◌, ◌≤◌, take}
use Rattle.std.specs.Prelude.{vec_capacity}
use Rattle.commitments.proofs.segment_holds.moved.Given as goal

-- the steps so far are there, and all have room
abbrev pub invariant-loop-step : goal.invariant-loop-step
invariant-loop-step l = (l.moved.items ≡ take l.step-index l.steps) × (l.room ≤ vec_capacity l.moved)
