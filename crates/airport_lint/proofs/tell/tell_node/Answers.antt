use Rattle.std.proofs.Common.{[], ◌∷◌}
use Rattle.airport_lint.specs.declared.advice.Advice.TheVariants.{NodeNoArrival, NodeNoDeparture, NodeUnused}
use Rattle.airport_lint.proofs.TellLaws.{tells-then, tells-one}
use Rattle.airport_lint.proofs.tell.tell_node.Goals as goal

pub returns : goal.returns
returns c =
    let airport = c.args.airport.now in
    let told = c.args.told.now.items in
    tells-then airport (NodeNoArrival c.args.node) c.has_no_arrival-arrival.result (NodeNoDeparture c.args.node ∷ NodeUnused c.args.node ∷ []) told c.tell_if.new.told.items c.tell_if-3.new.told.items c.has_no_arrival-arrival.ensures c.in_ok-tell_if.ensures
    (tells-then airport (NodeNoDeparture c.args.node) c.has_no_departure-departure.result (NodeUnused c.args.node ∷ []) c.tell_if.new.told.items c.tell_if-2.new.told.items c.tell_if-3.new.told.items c.has_no_departure-departure.ensures c.in_ok-tell_if-2.ensures
    (tells-one airport (NodeUnused c.args.node) c.is_unused-unused.result c.tell_if-2.new.told.items c.tell_if-3.new.told.items c.is_unused-unused.ensures c.in_ok-tell_if-3.ensures))
