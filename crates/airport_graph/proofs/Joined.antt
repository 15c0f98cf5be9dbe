-- The pieces of a line, joined.
use Rattle.std.proofs.Common.{◌≡◌, ℕ, List, [], ◌++◌, refl}
use Rattle.std.specs.Prelude.{flat_map, codes}
use Rattle.taxi_base.specs.Airport.{Airport, NodeRow}
use Rattle.airport_graph.specs.declared.edge.Edge.{Edge}
use Rattle.airport_graph.specs.Graph.{shape_word, node_line, seconds_word, style_word, direction_word, edge_line, segment_lines, graph_text}

pub node-pieces : (row : NodeRow) (a name b shape d : List ℕ) → a ≡ codes "\"" → name ≡ row.name → b ≡ codes "\" [shape=" → shape ≡ shape_word row.kind → d ≡ codes "];\n"
    → a ++ (name ++ (b ++ (shape ++ (d ++ [])))) ≡ node_line row
unfolding node_line
node-pieces row a name b shape d e f g h i = rw (e, f, g, h, i) refl

pub edge-pieces : (edge : Edge) (a from b to d name seconds e style way f : List ℕ) → a ≡ codes "\"" → from ≡ edge.from → b ≡ codes "\" -> \"" → to ≡ edge.to → d ≡ codes "\" [label=\"" → name ≡ edge.name
    → seconds ≡ seconds_word edge.seconds → e ≡ codes "\"" → style ≡ style_word edge.seconds → way ≡ direction_word edge.both → f ≡ codes "];\n"
    → a ++ (from ++ (b ++ (to ++ (d ++ (name ++ (seconds ++ (e ++ (style ++ (way ++ (f ++ [])))))))))) ≡ edge_line edge
unfolding edge_line
edge-pieces edge a from b to d name seconds e style way f p q r s t u v w x y z = rw (p, q, r, s, t, u, v, w, x, y, z) refl

pub whole-text : (airport : Airport) (start head nodes lines text : List ℕ) → start ≡ [] → head ≡ start ++ codes "digraph airport {\n" → nodes ≡ head ++ flat_map node_line airport.nodes
    → lines ≡ nodes ++ segment_lines airport 0 airport.segments → text ≡ lines ++ codes "}\n" → text ≡ graph_text airport
unfolding graph_text
whole-text airport start head nodes lines text a b c d e = rw (e, d, c, b, a) refl
