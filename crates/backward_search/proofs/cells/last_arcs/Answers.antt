use Rattle.std.proofs.Common.{◌++◌, sym, ◌∙◌}
use Rattle.backward_search.proofs.DepartureLaws.{last_arcs-more}
use Rattle.backward_search.proofs.cells.last_arcs.Goals as goal

pub loop-node-preserved : goal.loop-node-preserved
loop-node-preserved c =
    c.in_ok-extend_from_slice.ensures.items ∙ (λ i. c.loop-node.invariant i ++ c.entering.ensures i)
    ∙ sym (last_arcs-more c.args.ground.now.graph.now c.args.to.now c.loop-node.node-index _ c.loop-node-test.true)
