-- How is a choice narrowed down to the first node by name? No public clause cites this file.
use Rattle.std.specs.Prelude.{ℕ, ◌≡◌, ◌<◌, ◌≤◌, List, length, filter, All, Contains, IsFalse}
use Rattle.taxi_base.specs.declared.numbers.Node.{Node}
use Rattle.taxi_base.specs.declared.rows.Step.{Step}
use Rattle.taxi_base.specs.Airport.{Airport, layout_of}
use Rattle.taxi_base.specs.Walks.{Conditions, begin_of, end_of, IsRoute, LeavesNode, ReachesNode, ReachesNodeWithin, EndsEarliest}
use Rattle.taxi_base.specs.Labels.{IsPickedArrival}
use Rattle.taxi_base.specs.Choices.{node_precedes, ReachesOneOf, ReachesOneOfWithin}
use Rattle.stand_choice.specs.declared.arriving.Way.{Way}

-- each node is one of the airport's
abbrev pub AreNodes : Airport → List Node → Type 0
AreNodes airport nodes = All (λ node. node.0 < length airport.nodes) nodes

-- the nodes of a list whose names come before a node's
abbrev pub nodes_before : Airport → Node → List Node → List Node
nodes_before airport node nodes = filter (λ n. node_precedes airport n node) nodes

-- of the nodes that are as good as the best, it is the first by name
pub record IsFirstByName (airport : Airport) (nodes : List Node) (IsAsGood : Node → Type 0) (to : Node) : Type 0 where
  pub named : Contains nodes to
  pub as_good : IsAsGood to
  pub first : (node : Node) → Contains nodes node → IsAsGood node → IsFalse (node_precedes airport node to)

-- ---- arrivals

-- a walk reaches the node, and ends at a time
abbrev pub IsReachedAt : Conditions → (Step → Type 0) → ℕ → Node → Type 0
IsReachedAt c Begins end node = (steps : List Step) × IsRoute c Begins (ReachesNode (layout_of c.airport) node) steps × (end_of steps ≡ end)

-- no walk to any of the nodes ends earlier
abbrev pub NoneEarlier : Conditions → (Step → Type 0) → List Node → ℕ → Type 0
NoneEarlier c Begins nodes end = (steps : List Step) → IsRoute c Begins (ReachesOneOf (layout_of c.airport) nodes) steps → end ≤ end_of steps

-- the way is the route that is picked for its node
pub record IsWay (c : Conditions) (Begins : Step → Type 0) (way : Way) : Type 0 where
  pub earliest : EndsEarliest (IsRoute c Begins (ReachesNode (layout_of c.airport) way.to)) way.steps
  pub picked : IsPickedArrival c Begins way.to way.steps

-- ---- departures

-- a walk ends at the node within a time, and begins at a time
abbrev pub IsLeftForAt : Conditions → Node → ℕ → ℕ → ℕ → Node → Type 0
IsLeftForAt c from earliest latest begin node =
    (steps : List Step) × IsRoute c (LeavesNode (layout_of c.airport) from) (ReachesNodeWithin (layout_of c.airport) node earliest latest) steps × (begin_of steps ≡ begin)

-- no walk to any of the nodes begins later
abbrev pub NoneLater : Conditions → Node → List Node → ℕ → ℕ → ℕ → Type 0
NoneLater c from nodes earliest latest begin =
    (steps : List Step) → IsRoute c (LeavesNode (layout_of c.airport) from) (ReachesOneOfWithin (layout_of c.airport) nodes earliest latest) steps → begin_of steps ≤ begin
