use Rattle.std.proofs.Common.{◌<◌, false, get_or, IsTrue}
use Rattle.taxi_base.specs.declared.numbers.Node.{Node}
use Rattle.class_ways.specs.Ways.{is_of}
use Rattle.airport_lint.proofs.ways.has_node.Given as goal

abbrev pub invariant-loop-number : goal.invariant-loop-number
invariant-loop-number l = (node : Node) → node.0 < l.number → IsTrue (is_of l.kind l.airport node) → IsTrue (get_or l.row node.0 false) → ⊥
