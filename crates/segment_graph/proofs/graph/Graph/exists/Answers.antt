-- An arc exists where it has a tail.
use Rattle.std.proofs.Common.{◌≡◌, ◌∙◌, ap}
use Rattle.std.specs.Prelude.{is_some}
use Rattle.taxi_base.specs.Airport.{Layout}
use Rattle.segment_graph.specs.Groups.{tail_in}
use Rattle.segment_graph.proofs.Ends.{arc_exists-tail}
use Rattle.segment_graph.proofs.graph.Graph.exists.Goals as goal

pub returns : goal.returns
returns c =
    let layout : Layout = record { nodes = c.self.inside.nodes; links = c.self.inside.links.items; forbidden = c.self.inside.forbidden.items } in
    let is : c.tail_in.result ≡ tail_in layout.links c.args.arc = rw c.deref.ensures.value at c.tail_in.ensures in
    rw (← c.self.view_is) (c.is_some.ensures ∙ ap is_some is ∙ arc_exists-tail layout c.args.arc)
