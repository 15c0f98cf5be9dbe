use Rattle.std.proofs.Common.{take}
use Rattle.commitments.specs.Taken.{has_second, IsFirstNamed}
use Rattle.commitments.proofs.segment_holds.SegmentHolds.first_holder.Given as goal

abbrev pub invariant-loop-held : goal.invariant-loop-held
invariant-loop-held l = IsFirstNamed (has_second l.airport l.second) (take l.held-index l.held-items) l.first
