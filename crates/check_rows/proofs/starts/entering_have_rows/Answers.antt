use Rattle.std.proofs.Common.{[], ◌∷◌, get_or, subst}
use Rattle.taxi_base.specs.declared.numbers.Node.{Node}
use Rattle.taxi_base.specs.Airport.{Layout}
use Rattle.taxi_base.specs.Walks.{conditions_among}
use Rattle.walk_labels.specs.BackwardRules.{IsFinishAt}
use Rattle.segment_graph.specs.Graphs.{AreEntering}
use Rattle.table_rows.specs.declared.reach.Way.TheVariants.{Backward}
use Rattle.table_rows.specs.HasRows.{HasEach}
use Rattle.check_rows.proofs.LoopLaws.{all-fails, all-holds, all-more, says-no, says-yes}
use Rattle.table_rows.proofs.EachLaws.{same-test}
use Rattle.check_rows.proofs.ArcLaws.{finishes-by_arcs, finishes-by_nodes}
use Rattle.check_rows.proofs.starts.entering_have_rows.Goals as goal

abbrev none : Node
none = record { 0 = 0 }

pub returns-then-not-begun-clause-begun : goal.returns-then-not-begun-clause-begun
returns-then-not-begun-clause-begun g c =
    let all = subst (λ (l : Layout). AreEntering l (get_or c.args.nodes.now c.loop-node.node-index none) c.entering-arcs.result.now) c.graph.ensures c.entering-arcs.ensures in
    let one = same-test c.in_ok-begun.ensures.closed (finishes-by_arcs (conditions_among c.args.airport.now c.args.class (g.H.HoldsOf.held c.args.holds.now)) c.args.table.now.bound c.args.table.now.rows.now (get_or c.args.nodes.now c.loop-node.node-index none) c.args.from c.args.by c.entering-arcs.result.now all) in
    same-test (all-fails (λ node. HasEach Backward (IsFinishAt (conditions_among c.args.airport.now c.args.class (g.H.HoldsOf.held c.args.holds.now)) (node ∷ []) c.args.from c.args.by) c.args.table.now.bound c.args.table.now.rows.now) c.args.nodes.now c.loop-node.node-index none c.loop-node-test.true (says-no _ c.if-not-begun.true one))
    (finishes-by_nodes (conditions_among c.args.airport.now c.args.class (g.H.HoldsOf.held c.args.holds.now)) c.args.table.now.bound c.args.table.now.rows.now c.args.nodes.now c.args.from c.args.by)

pub loop-node-preserved : goal.loop-node-preserved
loop-node-preserved g c =
    let all = subst (λ (l : Layout). AreEntering l (get_or c.args.nodes.now c.loop-node.node-index none) c.entering-arcs.result.now) c.graph.ensures c.entering-arcs.ensures in
    let one = same-test c.in_ok-begun.ensures.closed (finishes-by_arcs (conditions_among c.args.airport.now c.args.class (g.H.HoldsOf.held c.args.holds.now)) c.args.table.now.bound c.args.table.now.rows.now (get_or c.args.nodes.now c.loop-node.node-index none) c.args.from c.args.by c.entering-arcs.result.now all) in
    record {
      known = c.arcs_have_rows.ensures.known;
      begun = all-more (λ node. HasEach Backward (IsFinishAt (conditions_among c.args.airport.now c.args.class (g.H.HoldsOf.held c.args.holds.now)) (node ∷ []) c.args.from c.args.by) c.args.table.now.bound c.args.table.now.rows.now) c.args.nodes.now c.loop-node.node-index none c.loop-node-test.true c.loop-node.invariant.begun (says-yes _ c.if-not-begun.false one);
    }

pub returns-clause-begun : goal.returns-clause-begun
returns-clause-begun g c =
    same-test (all-holds (λ node. HasEach Backward (IsFinishAt (conditions_among c.args.airport.now c.args.class (g.H.HoldsOf.held c.args.holds.now)) (node ∷ []) c.args.from c.args.by) c.args.table.now.bound c.args.table.now.rows.now) c.args.nodes.now c.loop-node.node-index c.loop-node-test.false c.loop-node.invariant.begun)
    (finishes-by_nodes (conditions_among c.args.airport.now c.args.class (g.H.HoldsOf.held c.args.holds.now)) c.args.table.now.bound c.args.table.now.rows.now c.args.nodes.now c.args.from c.args.by)
