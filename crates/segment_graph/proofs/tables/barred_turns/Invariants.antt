use Rattle.std.proofs.Common.{◌≡◌, length, take}
use Rattle.segment_graph.specs.Groups.{groups_of, AreBarred}
use Rattle.segment_graph.proofs.tables.barred_turns.Given as goal

abbrev pub invariant-loop-pair : goal.invariant-loop-pair
invariant-loop-pair l = (length l.groups.items ≡ l.arcs) × AreBarred (take l.pair-index l.forbidden) (groups_of l.groups.items)
