use Rattle.std.proofs.Common.{◌++◌, take}
use Rattle.commitments.specs.Held.{all_steps, steps_with, AreAsMany, KeepsHoldRoom}
use Rattle.commitments.proofs.hold_index.HoldIndex.remove.Given as goal

abbrev pub invariant-loop-step : goal.invariant-loop-step
invariant-loop-step l =
    AreAsMany (all_steps l.initial.self) (all_steps l.self ++ steps_with l.holder (take l.step-index l.steps)) × KeepsHoldRoom l.initial.self l.self
