-- One more node, at which no segment ends yet.
use Rattle.std.proofs.Common.{map, length, length-append}
use Rattle.airport_rules.specs.Indexed.{link_of_way}
use Rattle.airport_rules.proofs.CountLaws.{AreCounted-node}
use Rattle.airport_rules.proofs.plan.Plan.add_node.Goals as goal

pub invariant_of-self-2 : goal.invariant_of-self-2
invariant_of-self-2 c = (
  rw (c.in_ok-push.ensures.ok, length-append, c.push_reserved-2.ensures.items, c.in_ok-reserve-2.ensures.items)
      (AreCounted-node (length c.self.inside.nodes) (map link_of_way c.self.inside.ways.items) c.self.inside.ends.items c.self.invariant.0),
  c.self.invariant.1,
)
