-- One more node keeps the rules.
use Rattle.segment_graph.proofs.Limits.{IsLaidOut-node}
use Rattle.segment_graph.proofs.builder.GraphBuilder.node.Goals as goal

pub invariant_of-self : goal.invariant_of-self
invariant_of-self c = IsLaidOut-node _ c.self.invariant (rw (← c.self.view_is) at c.requires)
