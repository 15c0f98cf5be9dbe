-- Which arcs meet at a node, and which turns there are.
use Rattle.std.specs.Prelude.{ℕ, ◌≡◌, ◌+◌, ◌<◌, List, [], length, IsTrue, Some, slice_index_or}
use Rattle.taxi_base.specs.Lists.{AreAll}
use Rattle.taxi_base.specs.declared.numbers.Node.{Node}
use Rattle.taxi_base.specs.declared.numbers.Arc.{Arc}
use Rattle.taxi_base.specs.Airport.{Layout, tail, head, permits}
use Rattle.segment_graph.specs.Layouts.{IsLaidOut}

-- exactly the arcs with a property, in order of number
abbrev pub AreArcs : (Arc → Type 0) → List Arc → Type 0
AreArcs Has arcs = AreAll (λ a. a.0) Has arcs

abbrev pub AreLeaving : Layout → Node → List Arc → Type 0
AreLeaving layout node arcs = AreArcs (λ a. tail layout a ≡ Some node) arcs

abbrev pub AreEntering : Layout → Node → List Arc → Type 0
AreEntering layout node arcs = AreArcs (λ a. head layout a ≡ Some node) arcs

-- the arcs to which a turn is permitted from one, and those from which one is permitted to it
abbrev pub AreNext : Layout → Arc → List Arc → Type 0
AreNext layout x arcs = AreArcs (λ y. IsTrue (permits layout x y)) arcs

abbrev pub ArePrevious : Layout → Arc → List Arc → Type 0
ArePrevious layout y arcs = AreArcs (λ x. IsTrue (permits layout x y)) arcs

-- a row a node, and a row an arc's number
pub record AreNodeRows (nodes : ℕ) (Row : Node → List Arc → Type 0) (rows : List (List Arc)) : Type 0 where
  pub count : length rows ≡ nodes
  pub each : (node : Node) → node.0 < nodes → Row node (slice_index_or rows node.0 [])

pub record AreArcRows (arcs : ℕ) (Row : Arc → List Arc → Type 0) (rows : List (List Arc)) : Type 0 where
  pub count : length rows ≡ arcs
  pub each : (arc : Arc) → arc.0 < arcs → Row arc (slice_index_or rows arc.0 [])

-- the four tables of a layout
pub record AreTables (layout : Layout) (leaving entering next previous : List (List Arc)) : Type 0 where
  pub laid_out : IsLaidOut layout
  pub leave : AreNodeRows layout.nodes (AreLeaving layout) leaving
  pub enter : AreNodeRows layout.nodes (AreEntering layout) entering
  pub onward : AreArcRows (length layout.links + length layout.links) (AreNext layout) next
  pub back : AreArcRows (length layout.links + length layout.links) (ArePrevious layout) previous
