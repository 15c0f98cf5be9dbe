-- One more forbidden turn keeps the rules.
use Rattle.segment_graph.proofs.Limits.{IsLaidOut-forbid}
use Rattle.segment_graph.proofs.builder.GraphBuilder.forbid.Goals as goal

pub invariant_of-self-2 : goal.invariant_of-self-2
invariant_of-self-2 c =
    rw c.in_ok-push.ensures.items (IsLaidOut-forbid _ c.args.x c.args.y c.self.invariant (rw (← c.self.view_is) at c.requires.from) (rw (← c.self.view_is) at c.requires.to))
