use Rattle.std.proofs.Common.{◌≡◌, length}
use Rattle.segment_graph.specs.Groups.{groups_of, end_in, AreGrouped}
use Rattle.segment_graph.proofs.tables.rows_by_end.Given as goal

abbrev pub invariant-loop-number : goal.invariant-loop-number
invariant-loop-number l = (length l.groups.items ≡ l.nodes) × AreGrouped (end_in l.side l.links) l.number (groups_of l.groups.items)
