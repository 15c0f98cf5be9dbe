use Rattle.std.proofs.Common.{◌≡◌, ◌+◌, ◌==◌, ◌++◌, length, take}
use Rattle.std.specs.Prelude.{count_by}
use Rattle.taxi_base.specs.declared.numbers.Segment.{Segment}
use Rattle.taxi_base.specs.Airport.{segment_of}
use Rattle.commitments.specs.Held.{list_of, all_steps, steps_with, AreAsMany, KeepsHoldRoom}
use Rattle.commitments.proofs.hold_index.HoldIndex.insert.Given as goal

abbrev pub invariant-loop-step : goal.invariant-loop-step
invariant-loop-step l =
    AreAsMany (all_steps l.initial.self ++ steps_with l.holder (take l.step-index l.steps)) (all_steps l.self)
    × KeepsHoldRoom l.initial.self l.self
    × ((segment : Segment) → length (list_of l.self segment).steps ≡ length (list_of l.initial.self segment).steps + count_by (λ s. (segment_of s.arc).0 == segment.0) (take l.step-index l.steps))
