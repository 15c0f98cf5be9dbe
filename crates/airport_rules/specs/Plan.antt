-- What the records of an airport file have given, and the airport that they make.
use Rattle.std.specs.Prelude.{ℕ, List, [], length, map, replicate, fold, Option, Some, None, slice_set, slice_index_or}
use Rattle.std.specs.List.{zip}
use Rattle.taxi_base.specs.declared.numbers.Segment.{Segment}
use Rattle.taxi_base.specs.declared.numbers.Arc.{Arc}
use Rattle.taxi_base.specs.declared.rows.Kind.{Kind}
use Rattle.taxi_base.specs.Airport.{Airport, NodeRow, SegmentRow, ClassRow, Link, Layout}
use Rattle.airport_rules.specs.declared.rows.TimeRow.{TimeRow}
use Rattle.airport_rules.specs.declared.rows.ClearanceRow.{ClearanceRow}

-- the names and rows in the order of the file; only the forbidden turns stand in the order of their arcs
pub record Plan : Type 0 where
  pub horizon : Option ℕ
  pub nodes : List (List ℕ)
  pub kinds : List Kind
  pub classes : List (List ℕ)
  pub segments : List (List ℕ)
  pub links : List Link
  pub times : List TimeRow
  pub clearances : List ClearanceRow
  pub forbidden : List (Arc × Arc)
  pub conflicts : List (List Segment)

-- before the first of these records
abbrev pub empty_plan : Plan
empty_plan = record { horizon = None; nodes = []; kinds = []; classes = []; segments = []; links = []; times = []; clearances = []; forbidden = []; conflicts = [] }

-- its arcs and turns
abbrev pub layout_of_plan : Plan → Layout
layout_of_plan plan = record { nodes = length plan.nodes; links = plan.links; forbidden = plan.forbidden }

-- ---- the airport

-- the table with a row's time written in
abbrev pub with_time : List (List (Option ℕ)) → TimeRow → List (List (Option ℕ))
with_time table row = slice_set table row.class.0 (slice_set (slice_index_or table row.class.0 []) row.segment.0 (Some row.seconds))

-- the least times of so many classes on so many segments: those of the rows, and no other
abbrev pub table_of : ℕ → ℕ → List TimeRow → List (List (Option ℕ))
table_of classes segments times = fold with_time (replicate classes (replicate segments None)) times

-- the clearances with a row's written in
abbrev pub with_clearance : List ℕ → ClearanceRow → List ℕ
with_clearance clearances row = slice_set clearances row.class.0 row.seconds

-- the clearances of so many classes: those of the rows, and 0 for each other class
abbrev pub clearances_of : ℕ → List ClearanceRow → List ℕ
clearances_of classes rows = fold with_clearance (replicate classes 0) rows

abbrev pub node_row : List ℕ × Kind → NodeRow
node_row named = record { name = named.0; kind = named.1 }

abbrev pub segment_row : List ℕ × Link → SegmentRow
segment_row named = record { name = named.0; from = named.1.from; to = named.1.to; both = named.1.both }

abbrev pub class_row : List ℕ × List (Option ℕ) → ClassRow
class_row named = record { name = named.0; seconds = named.1 }

-- the airport of a plan with this horizon
abbrev pub airport_of_plan : ℕ → Plan → Airport
airport_of_plan horizon plan = record {
  horizon = horizon;
  nodes = map node_row (zip plan.nodes plan.kinds);
  segments = map segment_row (zip plan.segments plan.links);
  classes = map class_row (zip plan.classes (table_of (length plan.classes) (length plan.segments) plan.times));
  clearances = clearances_of (length plan.classes) plan.clearances;
  forbidden = plan.forbidden;
  conflicts = plan.conflicts;
}
