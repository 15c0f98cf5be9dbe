use Rattle.std.proofs.Common.{take}
use Rattle.window_store.specs.Held.{IsFirstHeld}
use Rattle.commitments.specs.Held.{spans_by}
use Rattle.commitments.specs.Others.{steps_of_others}
use Rattle.commitments.proofs.segment_holds.SegmentHolds.first_of_others.Given as goal

abbrev pub invariant-loop-held : goal.invariant-loop-held
invariant-loop-held l = IsFirstHeld (spans_by l.airport (steps_of_others l.name (take l.held-index l.held-items))) l.from l.until l.first
