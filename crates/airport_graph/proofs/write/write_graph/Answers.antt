use Rattle.airport_graph.proofs.Joined.{whole-text}
use Rattle.airport_graph.proofs.write.write_graph.Goals as goal

pub returns : goal.returns
returns c =
    whole-text c.args.airport.now _ _ _ _ _ c.new-out.ensures.items c.in_ok-push_bytes.ensures.ok c.in_ok-write_nodes.ensures c.in_ok-write_segments.ensures c.in_ok-push_bytes-2.ensures.ok
