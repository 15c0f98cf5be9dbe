use Rattle.std.proofs.Common.{◌≡◌, take}
use Rattle.std.specs.Prelude.{filter}
use Rattle.segment_graph.specs.Groups.{groups_of, may_turn}
use Rattle.segment_graph.proofs.tables.permitted_to.Given as goal

abbrev pub invariant-loop-x : goal.invariant-loop-x
invariant-loop-x l = l.turns.items ≡ filter (λ x. may_turn (groups_of l.barred) x l.y) (take l.x-index l.entering)
