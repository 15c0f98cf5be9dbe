-- When are the arcs around a row's to be reached, and does a row fall short? No public clause cites these.
use Rattle.std.specs.Prelude.{ℕ, ◌≡◌, Bool, List, Option, Some}
use Rattle.taxi_base.specs.declared.numbers.Node.{Node}
use Rattle.taxi_base.specs.declared.numbers.Segment.{Segment}
use Rattle.taxi_base.specs.declared.numbers.Class.{Class}
use Rattle.taxi_base.specs.declared.numbers.Arc.{Arc}
use Rattle.taxi_base.specs.declared.rows.LabelRow.{LabelRow}
use Rattle.taxi_base.specs.Airport.{Airport, Layout, layout_of, clearance_of}
use Rattle.taxi_base.specs.Walks.{Conditions, last_of}
use Rattle.taxi_base.specs.Labels.{window_of}
use Rattle.taxi_base.specs.Choices.{OneOf}
use Rattle.segment_graph.specs.Graphs.{AreNext, ArePrevious}
use Rattle.table_rows.specs.declared.reach.Way.{Way}
use Rattle.table_rows.specs.declared.reach.Way.TheVariants.{Forward, Backward}
use Rattle.table_rows.specs.declared.reach.Reach.{Reach}
use Rattle.table_rows.specs.HasRows.{IsShort}
use Rattle.check_rows.specs.Rules.{far_end}

-- the conditions at an airport, with the class's own clearance
abbrev pub conditions_at : Airport → Class → (Segment → ℕ → Bool) → Conditions
conditions_at airport class free = record { airport = airport; class = class; clearance = clearance_of airport class; free = free }

-- when the arcs around a row's are to be reached
abbrev pub reach_of : Way → Conditions → LabelRow → Reach
reach_of Forward c row = record { way = Forward; from = row.value; by = last_of c (window_of row) }
reach_of Backward c row = record { way = Backward; from = row.from; by = row.value }

-- the arcs to which a turn is permitted, going on, and those from which one is, going back
abbrev pub AreNeighbours : Way → Layout → Arc → List Arc → Type 0
AreNeighbours Forward layout arc arcs = AreNext layout arc arcs
AreNeighbours Backward layout arc arcs = ArePrevious layout arc arcs

-- a row leads to none of the nodes, and is short of the bound
abbrev pub FallsShort : Way → Conditions → List Node → Option ℕ → LabelRow → Type 0
FallsShort way c nodes bound row = (OneOf (λ node. far_end way (layout_of c.airport) row.arc ≡ Some node) nodes → ⊥) × IsShort way bound row.value
