use Rattle.std.proofs.Common.{◌&&◌, take}
use Rattle.std.specs.List.{list_any}
use Rattle.taxi_base.specs.Windows.{span_has}
use Rattle.held_spans.specs.Holds.{held_at}
use Rattle.segment_windows.specs.Joins.{AreRid}
use Rattle.segment_windows.proofs.giving.cut_all.Given as goal

abbrev pub invariant-loop-segment : goal.invariant-loop-segment
invariant-loop-segment g l =
    AreRid (λ t. span_has l.span t && list_any (λ s. held_at (g.H.HoldsOf.held l.holds) s t) (take l.segment-index l.segments)) l.fn.windows.items l.windows.items
