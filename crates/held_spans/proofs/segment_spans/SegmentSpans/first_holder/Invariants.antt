use Rattle.std.proofs.Common.{take}
use Rattle.held_spans.specs.Holders.{IsFirstOf, IsHolderIn}
use Rattle.held_spans.proofs.segment_spans.SegmentSpans.first_holder.Given as goal

abbrev pub invariant-loop-place : goal.invariant-loop-place
invariant-loop-place l = IsFirstOf (IsHolderIn (take l.place l.self.rows) l.second) l.first
