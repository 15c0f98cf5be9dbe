-- A node's row.
use Rattle.std.proofs.Common.{◌<◌, []}
use Rattle.std.proofs.lemmas.Option.{get_or_from_slice_get}
use Rattle.segment_graph.proofs.graph.Graph.entering.Goals as goal

pub returns : goal.returns
returns c =
    let low : c.args.node.0 < c.self.inside.nodes = rw (← c.self.view_is) at c.requires in
    let is = get_or_from_slice_get c.self.inside.entering c.args.node.0 c.row.result.now [] c.row.ensures in
    rw (← c.self.view_is, ← is) (c.self.invariant.enter.each c.args.node low)
