use Rattle.std.proofs.Common.{◌≡◌, take}
use Rattle.segment_graph.specs.Groups.{groups_of}
use Rattle.segment_graph.proofs.tables.packed.Given as goal

abbrev pub invariant-loop-group : goal.invariant-loop-group
invariant-loop-group l = l.rows ≡ groups_of (take l.group-index l.groups)
