use Rattle.std.proofs.Common.{◌≡◌, Some, take}
use Rattle.taxi_base.specs.Airport.{node_name}
use Rattle.stand_choice.specs.Ways.{nodes_before}
use Rattle.stand_choice.proofs.nodes.named_before.Given as goal

-- the nodes so far whose names come before
abbrev pub invariant-loop-other : goal.invariant-loop-other
invariant-loop-other l = (l.before.items ≡ nodes_before l.airport l.fn.node (take l.other-index l.nodes)) × (node_name l.airport l.fn.node ≡ Some l.name)
