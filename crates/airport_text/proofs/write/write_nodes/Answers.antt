use Rattle.std.proofs.Common.{◌<◌, length, arith, sym, ap}
use Rattle.airport_text.specs.Canonical.{node_record}
use Rattle.airport_text.proofs.RecordLaws.{and_records-none, item-more}
use Rattle.airport_text.proofs.write.write_nodes.Goals as goal

pub loop-number-init : goal.loop-number-init
loop-number-init c = sym (and_records-none _)

pub loop-number-preserved : goal.loop-number-preserved
loop-number-preserved c =
    let low : c.loop-number.number < length c.args.airport.now.nodes = omega (arith, ap (λ g. g.nodes) c.graph.ensures) in
    item-more node_record c.args.airport.now.nodes c.loop-number.number _ _ _ low c.loop-number.invariant c.in_ok-write_node.ensures
