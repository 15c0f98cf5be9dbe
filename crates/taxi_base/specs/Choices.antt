-- A choice of nodes to reach: the walks to any of them, which of the nodes is chosen, and what is answered.
use Rattle.std.specs.Prelude.{ℕ, ◌≡◌, ◌≤◌, ◌⊎◌, Bool, IsFalse, List, [], ◌∷◌, Some, None, Contains}
use Rattle.taxi_base.specs.declared.numbers.Node.{Node}
use Rattle.taxi_base.specs.declared.rows.Step.{Step}
use Rattle.taxi_base.specs.declared.answers.Found.{Found}
use Rattle.taxi_base.specs.declared.answers.Found.TheVariants as found
use Rattle.taxi_base.specs.declared.answers.Chosen.{Chosen}
use Rattle.taxi_base.specs.declared.answers.Chosen.TheVariants as chosen
use Rattle.taxi_base.specs.Airport.{Airport, Layout, layout_of, node_word}
use Rattle.taxi_base.specs.State.{name_precedes}
use Rattle.taxi_base.specs.Walks.{Conditions, begin_of, end_of, IsRoute, LeavesNode, ReachesNode, ReachesNodeWithin, EndsEarliest, BeginsLatest, IsEarliestEnd, IsLatestBegin}
use Rattle.taxi_base.specs.Labels.{IsTable, IsExitBefore, IsEntryAfter, IsPickedDeparture, AnswersArrival}

-- ---- walks to any of some nodes

-- P holds of one of a list; where there is one alone, of that one
abbrev pub OneOf : {A : Type 0} → (A → Type 0) → List A → Type 0
OneOf P [] = ⊥
OneOf P (x ∷ []) = P x
OneOf P (x ∷ y ∷ xs) = P x ⊎ OneOf P (y ∷ xs)

abbrev pub ReachesOneOf : Layout → List Node → Step → Type 0
ReachesOneOf layout nodes step = OneOf (λ node. ReachesNode layout node step) nodes

abbrev pub ReachesOneOfWithin : Layout → List Node → ℕ → ℕ → Step → Type 0
ReachesOneOfWithin layout nodes earliest latest step = OneOf (λ node. ReachesNodeWithin layout node earliest latest step) nodes

-- What a search finds for walks that begin so: one that ends earliest of those to any of the nodes, with the labels short of
-- its end; or that none reaches any of them, with all labels.
abbrev pub AnswersArrivalToOneOf : Conditions → (Step → Type 0) → List Node → Found → Type 0
AnswersArrivalToOneOf c Begins nodes (found.Route steps labels) =
    EndsEarliest (IsRoute c Begins (ReachesOneOf (layout_of c.airport) nodes)) steps × IsTable (IsExitBefore c Begins (Some (end_of steps))) labels
AnswersArrivalToOneOf c Begins nodes (found.NoRoute labels) =
    ((steps : List Step) → IsRoute c Begins (ReachesOneOf (layout_of c.airport) nodes) steps → ⊥) × IsTable (IsExitBefore c Begins None) labels

-- ---- the node that is chosen

-- whether a node's name stands before another's, by their bytes
abbrev pub node_precedes : Airport → Node → Node → Bool
node_precedes airport a b = name_precedes (node_word airport a) (node_word airport b)

-- For an arrival it is the node with the least best end: no walk to any of the nodes ends earlier than the best to it. Of those to
-- which a walk ends then it is the first by name.
pub record IsChosenArrival (c : Conditions) (Begins : Step → Type 0) (nodes : List Node) (to : Node) : Type 0 where
  pub named : Contains nodes to
  pub end : ℕ
  pub best : IsEarliestEnd (IsRoute c Begins (ReachesNode (layout_of c.airport) to)) end
  pub least : (node : Node) → Contains nodes node → (steps : List Step) → IsRoute c Begins (ReachesNode (layout_of c.airport) node) steps → end ≤ end_of steps
  pub first : (node : Node) → Contains nodes node → (steps : List Step) → IsRoute c Begins (ReachesNode (layout_of c.airport) node) steps
      → end_of steps ≡ end → IsFalse (node_precedes c.airport node to)

-- For a departure, whose walks leave a node and end at one of the nodes within a time, it is the one with the greatest best
-- begin, and the first by name of those to which a walk begins then.
pub record IsChosenDeparture (c : Conditions) (from : Node) (nodes : List Node) (earliest latest : ℕ) (to : Node) : Type 0 where
  pub named : Contains nodes to
  pub begin : ℕ
  pub best : IsLatestBegin (IsRoute c (LeavesNode (layout_of c.airport) from) (ReachesNodeWithin (layout_of c.airport) to earliest latest)) begin
  pub greatest : (node : Node) → Contains nodes node → (steps : List Step)
      → IsRoute c (LeavesNode (layout_of c.airport) from) (ReachesNodeWithin (layout_of c.airport) node earliest latest) steps → begin_of steps ≤ begin
  pub first : (node : Node) → Contains nodes node → (steps : List Step)
      → IsRoute c (LeavesNode (layout_of c.airport) from) (ReachesNodeWithin (layout_of c.airport) node earliest latest) steps
      → begin_of steps ≡ begin → IsFalse (node_precedes c.airport node to)

-- ---- what is answered

-- The answer to a choice is the chosen node with the route that is picked for it, or that no walk reaches any of the nodes, with
-- all labels. What is told of a route to the chosen node is what answers the arrival to it, since the earliest exits are the
-- same whatever node is to be reached.
abbrev pub AnswersArrivalChoice : Conditions → (Step → Type 0) → List Node → Chosen → Type 0
AnswersArrivalChoice c Begins nodes (chosen.Route to steps labels) = IsChosenArrival c Begins nodes to × AnswersArrival c Begins to (found.Route steps labels)
AnswersArrivalChoice c Begins nodes (chosen.NoRoute labels) = AnswersArrivalToOneOf c Begins nodes (found.NoRoute labels)

-- For a departure the route is that of the latest entries of the walks to the chosen node alone. The table has the latest entries
-- of the walks to any of the nodes.
abbrev pub AnswersDepartureChoice : Conditions → Node → List Node → ℕ → ℕ → Chosen → Type 0
AnswersDepartureChoice c from nodes earliest latest (chosen.Route to steps labels) =
    IsChosenDeparture c from nodes earliest latest to
    × BeginsLatest (IsRoute c (LeavesNode (layout_of c.airport) from) (ReachesNodeWithin (layout_of c.airport) to earliest latest)) steps
    × IsPickedDeparture c (ReachesNodeWithin (layout_of c.airport) to earliest latest) from steps
    × IsTable (IsEntryAfter c (ReachesOneOfWithin (layout_of c.airport) nodes earliest latest) (Some (begin_of steps))) labels
AnswersDepartureChoice c from nodes earliest latest (chosen.NoRoute labels) =
    ((steps : List Step) → IsRoute c (LeavesNode (layout_of c.airport) from) (ReachesOneOfWithin (layout_of c.airport) nodes earliest latest) steps → ⊥)
    × IsTable (IsEntryAfter c (ReachesOneOfWithin (layout_of c.airport) nodes earliest latest) None) labels
