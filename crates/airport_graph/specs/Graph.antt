-- How is an airport written as a graph in DOT?
use Rattle.std.specs.Prelude.{ℕ, ◌+◌, min, Bool, if◌then◌else◌, List, [], ◌∷◌, ◌++◌, map, flat_map, slice_index_or, Option, Some, None, codes, decimal}
use Rattle.taxi_base.specs.declared.numbers.Segment.{Segment}
use Rattle.taxi_base.specs.declared.rows.Kind.{Kind}
use Rattle.taxi_base.specs.declared.rows.Kind.TheVariants.{Runway, Junction, Stand}
use Rattle.taxi_base.specs.Airport.{Airport, NodeRow, SegmentRow, node_word, times_of}
use Rattle.airport_graph.specs.declared.edge.Edge.{Edge}

-- ---- nodes

-- a runway node is a box, a junction a circle and a stand a house
abbrev pub shape_word : Kind → List ℕ
shape_word Runway = codes "box"
shape_word Junction = codes "circle"
shape_word Stand = codes "house"

-- A line is the text of its pieces. A name has neither a quote nor a backslash, so between quotes it stands for itself.
abbrev pub joined : List (List ℕ) → List ℕ
joined pieces = flat_map (λ piece. piece) pieces

unfoldable pub node_line : NodeRow → List ℕ
node_line row = joined (codes "\"" ∷ row.name ∷ codes "\" [shape=" ∷ shape_word row.kind ∷ codes "];\n" ∷ [])

-- ---- seconds

-- the lesser of two numbers, of which each may be missing
abbrev pub lesser : Option ℕ → Option ℕ → Option ℕ
lesser None b = b
lesser (Some a) None = Some a
lesser (Some a) (Some b) = Some (min a b)

-- the least of some numbers, of which each may be missing; none where all are
abbrev pub least : List (Option ℕ) → Option ℕ
least [] = None
least (n ∷ ns) = lesser n (least ns)

-- the least of the classes' seconds on a segment; none where no class has any
abbrev pub least_seconds : Airport → Segment → Option ℕ
least_seconds airport segment = least (map (λ row. slice_index_or row segment.0 None) (times_of airport))

-- ---- segments

-- a segment leads from its first node to its second
unfoldable pub edge_of : Airport → Segment → SegmentRow → Edge
edge_of airport segment row = record {
  from = node_word airport row.from;
  to = node_word airport row.to;
  name = row.name;
  seconds = least_seconds airport segment;
  both = row.both;
}

-- the seconds stand after the name
abbrev pub seconds_word : Option ℕ → List ℕ
seconds_word None = []
seconds_word (Some number) = codes " " ++ decimal number

-- a segment that no class may use is dotted
abbrev pub style_word : Option ℕ → List ℕ
style_word None = codes ", style=dotted"
style_word (Some number) = []

-- one that may be taken both ways has a tip at both ends
abbrev pub direction_word : Bool → List ℕ
direction_word both = if both then codes ", dir=both" else []

unfoldable pub edge_line : Edge → List ℕ
edge_line edge =
    joined (codes "\"" ∷ edge.from ∷ codes "\" -> \"" ∷ edge.to ∷ codes "\" [label=\"" ∷ edge.name ∷ seconds_word edge.seconds ∷ codes "\""
    ∷ style_word edge.seconds ∷ direction_word edge.both ∷ codes "];\n" ∷ [])

abbrev pub segment_line : Airport → Segment → SegmentRow → List ℕ
segment_line airport segment row = edge_line (edge_of airport segment row)

-- the lines of segments in their order, the first of which has this number
abbrev pub segment_lines : Airport → ℕ → List SegmentRow → List ℕ
segment_lines airport number [] = []
segment_lines airport number (row ∷ rows) = segment_line airport (record { 0 = number }) row ++ segment_lines airport (number + 1) rows

-- ---- the text

-- all nodes, and then all segments
unfoldable pub graph_text : Airport → List ℕ
graph_text airport = codes "digraph airport {\n" ++ flat_map node_line airport.nodes ++ segment_lines airport 0 airport.segments ++ codes "}\n"
