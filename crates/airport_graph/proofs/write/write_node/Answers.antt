use Rattle.std.proofs.Common.{◌≡◌, ◌++◌, ◌∙◌, List, ℕ, OnOk, subst, ap}
use Rattle.airport_text.proofs.SegmentLaws.{each_row}
use Rattle.airport_graph.specs.Graph.{shape_word}
use Rattle.airport_graph.proofs.Joined.{node-pieces}
use Rattle.airport_graph.proofs.write.write_node.Goals as goal

pub returns : goal.returns
returns c =
    each_row c.args.airport.now.nodes c.args.node.0 _ (λ row found.
    let name : c.node_name-name.result ≡ row.name = cc (rw found at c.node_name-name.ensures) in
    let kind : c.kind.result ≡ row.kind = cc (rw found at c.kind.ensures) in
    subst (λ (text : List ℕ). OnOk c.push_pieces.result (c.push_pieces.new.out.items ≡ c.args.out.now.items ++ text))
    (node-pieces row c.as_slice.result.now c.bytes.result.now c.as_slice-2.result.now c.shape_word-shape.result.now c.as_slice-3.result.now
    c.as_slice.ensures (c.bytes.ensures.same ∙ name) c.as_slice-2.ensures (c.shape_word-shape.ensures ∙ ap shape_word kind) c.as_slice-3.ensures)
    c.push_pieces.ensures)
