use Rattle.airport_lint.specs.Advice.{node_advice}
use Rattle.airport_lint.proofs.TellLaws.{tells-below}
use Rattle.airport_lint.proofs.tell.tell_nodes.Goals as goal

pub loop-number-preserved : goal.loop-number-preserved
loop-number-preserved c =
    tells-below c.args.airport.now node_advice c.loop-number.number c.args.told.now.items c.loop-number.told.items c.tell_node.new.told.items c.loop-number.invariant c.in_ok-tell_node.ensures
