use Rattle.std.proofs.Common.{take}
use Rattle.std.specs.Prelude.{flat_map}
use Rattle.held_spans.specs.Holders.{IsFirstOf, IsHolderIn}
use Rattle.held_spans.specs.Spans.{rows_at}
use Rattle.due_refusals.proofs.holder.holder_at.Given as goal

abbrev pub invariant-loop-other : goal.invariant-loop-other
invariant-loop-other l = IsFirstOf (IsHolderIn (flat_map (rows_at l.spans) (take l.other-index l.other-items)) l.second) l.first
