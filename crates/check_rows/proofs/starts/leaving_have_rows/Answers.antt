use Rattle.std.proofs.Common.{subst}
use Rattle.taxi_base.specs.Airport.{Layout}
use Rattle.taxi_base.specs.Walks.{conditions_among}
use Rattle.segment_graph.specs.Graphs.{AreLeaving}
use Rattle.table_rows.proofs.EachLaws.{same-test}
use Rattle.check_rows.proofs.ArcLaws.{starts-by_arcs}
use Rattle.check_rows.proofs.starts.leaving_have_rows.Goals as goal

pub returns-clause-begun : goal.returns-clause-begun
returns-clause-begun g c =
    let all = subst (λ (l : Layout). AreLeaving l c.args.node c.leaving-arcs.result.now) c.graph.ensures c.leaving-arcs.ensures in
    same-test c.in_ok-begun.ensures.closed (starts-by_arcs (conditions_among c.args.airport.now c.args.class (g.H.HoldsOf.held c.args.holds.now)) c.args.table.now.bound c.args.table.now.rows.now c.args.node c.args.from c.args.by c.leaving-arcs.result.now all)
