use Rattle.std.proofs.Common.{◌≡◌, take}
use Rattle.std.specs.Prelude.{filter}
use Rattle.segment_graph.specs.Groups.{groups_of, may_turn}
use Rattle.segment_graph.proofs.tables.permitted_from.Given as goal

abbrev pub invariant-loop-y : goal.invariant-loop-y
invariant-loop-y l = l.turns.items ≡ filter (may_turn (groups_of l.barred) l.x) (take l.y-index l.leaving)
