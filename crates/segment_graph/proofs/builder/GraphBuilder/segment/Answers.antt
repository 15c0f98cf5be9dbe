-- One more segment keeps the rules.
use Rattle.taxi_base.specs.Airport.{Link}
use Rattle.segment_graph.proofs.Limits.{IsLaidOut-segment}
use Rattle.segment_graph.proofs.builder.GraphBuilder.segment.Goals as goal

pub invariant_of-self-2 : goal.invariant_of-self-2
invariant_of-self-2 c =
    let link : Link = record { from = c.args.a; to = c.args.b; both = c.args.both } in
    rw (c.in_ok-push.ensures.items, c.new.ensures)
    (IsLaidOut-segment _ link c.self.invariant (rw (← c.self.view_is) at c.requires.few) (rw (← c.self.view_is) at c.requires.first) (rw (← c.self.view_is) at c.requires.second)
    (rw (← c.self.view_is) at c.requires.degree_first) (rw (← c.self.view_is) at c.requires.degree_second))
