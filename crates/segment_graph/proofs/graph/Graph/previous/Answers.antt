-- An arc's row.
use Rattle.std.proofs.Common.{[]}
use Rattle.std.proofs.lemmas.Option.{get_or_from_slice_get}
use Rattle.segment_graph.proofs.Ends.{arc_exists-low}
use Rattle.segment_graph.proofs.graph.Graph.previous.Goals as goal

pub row-requires : goal.row-requires
row-requires c = rw c.self.invariant.back.count (arc_exists-low _ c.args.arc (rw (← c.self.view_is) at c.requires))

pub returns : goal.returns
returns c =
    let low = arc_exists-low _ c.args.arc (rw (← c.self.view_is) at c.requires) in
    let is = get_or_from_slice_get c.self.inside.previous c.args.arc.0 c.row.result.now [] c.row.ensures in
    rw (← c.self.view_is, ← is) (c.self.invariant.back.each c.args.arc low)
