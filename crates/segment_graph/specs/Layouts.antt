-- Which layouts a builder may lay.
use Rattle.std.specs.Prelude.{◌<◌, ◌≤◌, length, IsTrue, All}
use Rattle.taxi_base.specs.declared.numbers.Node.{Node}
use Rattle.taxi_base.specs.Airport.{Layout, link_ends, arc_exists}

-- Within the limits: each segment's ends and each forbidden turn's arcs exist.
pub record IsLaidOut (layout : Layout) : Type 0 where
  pub few_nodes : layout.nodes ≤ 10000
  pub few_segments : length layout.links ≤ 10000
  pub ends : All (λ l. (l.from.0 < layout.nodes) × (l.to.0 < layout.nodes)) layout.links
  pub degree : (node : Node) → link_ends node layout.links ≤ 32
  pub forbidden : All (λ p. IsTrue (arc_exists layout p.0) × IsTrue (arc_exists layout p.1)) layout.forbidden
