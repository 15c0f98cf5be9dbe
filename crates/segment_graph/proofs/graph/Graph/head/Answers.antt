-- The end of an arc that exists.
use Rattle.std.proofs.Common.{◌≡◌, ◌∙◌, sym, IsTrue}
use Rattle.taxi_base.specs.Airport.{Layout, arc_exists}
use Rattle.segment_graph.specs.declared.links.Side.TheVariants.{Head}
use Rattle.segment_graph.specs.Groups.{head_in}
use Rattle.segment_graph.proofs.Ends.{head-is, arc_exists-head, end_in-exists}
use Rattle.segment_graph.proofs.graph.Graph.head.Goals as goal

pub unwrap-requires : goal.unwrap-requires
unwrap-requires c =
    let layout : Layout = record { nodes = c.self.inside.nodes; links = c.self.inside.links.items; forbidden = c.self.inside.forbidden.items } in
    let exists : IsTrue (arc_exists layout c.args.arc) = rw (← c.self.view_is) at c.requires in
    let is : c.head_in.result ≡ head_in layout.links c.args.arc = rw c.deref.ensures.value at c.head_in.ensures in
    rw is (arc_exists-head layout c.args.arc ∙ exists)

pub returns-clause-head : goal.returns-clause-head
returns-clause-head c =
    let layout : Layout = record { nodes = c.self.inside.nodes; links = c.self.inside.links.items; forbidden = c.self.inside.forbidden.items } in
    let is : c.head_in.result ≡ head_in layout.links c.args.arc = rw c.deref.ensures.value at c.head_in.ensures in
    rw (← c.self.view_is) (sym c.unwrap.ensures ∙ is ∙ sym (head-is layout c.args.arc))

pub returns-clause-exists : goal.returns-clause-exists
returns-clause-exists c =
    let layout : Layout = record { nodes = c.self.inside.nodes; links = c.self.inside.links.items; forbidden = c.self.inside.forbidden.items } in
    let is : c.head_in.result ≡ head_in layout.links c.args.arc = rw c.deref.ensures.value at c.head_in.ensures in
    rw (← c.self.view_is) (end_in-exists Head layout.links layout.nodes c.args.arc c.unwrap.result c.self.invariant.laid_out.ends (sym is ∙ c.unwrap.ensures))
