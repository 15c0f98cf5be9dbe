use Rattle.std.proofs.Common.{get_or}
use Rattle.std.proofs.lemmas.List.Elements.{Contains-get_or}
use Rattle.class_ways.proofs.WayLaws.{turn-exists}
use Rattle.class_ways.proofs.met.add_turns.Goals as goal

pub add_open-requires-clause-exist : goal.add_open-requires-clause-exist
add_open-requires-clause-exist c k d low =
    turn-exists c.args.course c.args.airport.now c.args.from (get_or c.turns-arcs.result.now k d)
    (rw c.graph.ensures at ((c.turns-arcs.ensures.each (get_or c.turns-arcs.result.now k d)).0 (Contains-get_or c.turns-arcs.result.now k d low)))
