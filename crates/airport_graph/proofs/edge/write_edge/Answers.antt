use Rattle.std.proofs.Common.{◌≡◌, ◌++◌, ◌∙◌, List, ℕ, OnOk, subst}
use Rattle.airport_graph.proofs.Joined.{edge-pieces}
use Rattle.airport_graph.proofs.edge.write_edge.Goals as goal

pub returns : goal.returns
returns c =
    subst (λ (text : List ℕ). OnOk c.push_pieces.result (c.push_pieces.new.out.items ≡ c.args.out.now.items ++ text))
    (edge-pieces c.args.edge.now c.as_slice.result.now c.bytes.result.now c.as_slice-2.result.now c.bytes-2.result.now c.as_slice-3.result.now c.bytes-3.result.now c.bytes-4.result.now c.as_slice-4.result.now
    c.style_word.result.now c.direction_word.result.now c.as_slice-5.result.now c.as_slice.ensures c.bytes.ensures.same c.as_slice-2.ensures c.bytes-2.ensures.same c.as_slice-3.ensures c.bytes-3.ensures.same
    (c.bytes-4.ensures.same ∙ c.seconds_word-seconds.ensures) c.as_slice-4.ensures c.style_word.ensures c.direction_word.ensures c.as_slice-5.ensures)
    c.push_pieces.ensures
