use Rattle.std.proofs.Common.{take, IsFalse}
use Rattle.taxi_base.specs.Windows.{covers}
use Rattle.commitments.specs.Held.{spans_by}
use Rattle.commitments.proofs.segment_holds.SegmentHolds.held_until.Given as goal

abbrev pub invariant-loop-held : goal.invariant-loop-held
invariant-loop-held l = IsFalse (covers (spans_by l.airport (take l.held-index l.held-items)) l.from)
