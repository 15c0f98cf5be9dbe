use Rattle.std.proofs.Common.{◌≡◌, ◌*◌, ◌+◌, refl}
use Rattle.std.proofs.Math.Nat.{add-zero}
use Rattle.airport_text.proofs.SegmentLaws.{forward-exists, backward-exists, each_row, segment-fields}
use Rattle.airport_graph.specs.Graph.{edge_of}
use Rattle.airport_graph.proofs.edge.edge_of.Goals as goal

pub tail-requires : goal.tail-requires
tail-requires c = rw (c.graph-graph.ensures, c.of-forward.ensures, add-zero (2 * c.args.segment.0)) (forward-exists c.args.airport.now c.args.segment.0 c.requires.number)

pub returns : goal.returns
unfolding edge_of
returns c =
    let forward : c.of-forward.result ≡ record { 0 = 2 * c.args.segment.0 } = rw (c.of-forward.ensures, add-zero (2 * c.args.segment.0)) refl in
    each_row c.args.airport.now.segments c.args.segment.0 _ (λ row found.
    let own = segment-fields c.args.airport.now c.graph-graph.result.now c.args.segment row c.tail.result c.head.result _ _ _
    c.graph-graph.ensures found c.segment_name.ensures (rw forward at c.tail.ensures.tail) c.node_name.ensures (rw forward at c.head.ensures.head) c.node_name-2.ensures in
    let both = backward-exists c.args.airport.now c.args.segment.0 row found in
    cc (own, both, c.exists.ensures, c.of.ensures, c.graph-graph.ensures, c.least_seconds.ensures))
