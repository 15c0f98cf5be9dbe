use Rattle.std.proofs.Common.{◌&&◌, take}
use Rattle.taxi_base.specs.Windows.{span_has, covers}
use Rattle.segment_windows.specs.Joins.{AreRid}
use Rattle.segment_windows.proofs.giving.cut_parts.Given as goal

abbrev pub invariant-loop-held : goal.invariant-loop-held
invariant-loop-held l = AreRid (λ t. span_has l.span t && covers (take l.held-index l.spans) t) l.fn.windows.items l.windows.items
