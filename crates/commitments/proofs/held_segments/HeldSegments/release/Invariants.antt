use Rattle.std.proofs.Common.{◌++◌, ◌-◌, ◌≤◌, length, take, map}
use Rattle.taxi_base.specs.Windows.{holds_of}
use Rattle.window_store.specs.Stands.{StandsFor}
use Rattle.window_store.specs.Kept.{IsClearOf, KeepsWindows, KeepsNodes}
use Rattle.commitments.specs.Held.{hold_by, clearance_after, steps_with, AreAsMany}
use Rattle.commitments.proofs.held_segments.HeldSegments.release.Given as goal

-- the first steps are given back: the others hold what they do, and what is clear of these steps is as it was
abbrev pub invariant-loop-done : goal.invariant-loop-done
invariant-loop-done l = record {
  few : l.done ≤ length l.steps;
  stands : StandsFor l.airport.conflicts l.airport.horizon (map (hold_by l.airport) l.self.steps) l.self.store;
  steps : AreAsMany l.initial.self.steps (l.self.steps ++ steps_with l.holder (take l.done l.steps));
  kept : KeepsWindows IsClearOf l.airport.conflicts (holds_of l.airport.horizon (clearance_after l.airport l.holder) (take l.done l.steps)) l.initial.self.store l.self.store;
  nodes : KeepsNodes l.initial.self.store l.self.store;
}

abbrev pub decreases-loop-done : goal.decreases-loop-done
decreases-loop-done l = length l.steps - l.done
