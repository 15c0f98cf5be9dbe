use Rattle.std.proofs.Common.{IsTrue, sym}
use Rattle.taxi_base.specs.Airport.{layout_of, arc_exists}
use Rattle.taxi_base.specs.Walks.{ReachesNode}
use Rattle.taxi_base.proofs.WalkLaws.{at-last, AtLast-some}
use Rattle.stand_choice.proofs.nodes.node_at_end.Goals as goal

pub head-requires : goal.head-requires
head-requires c =
    let some = AtLast-some (λ s. IsTrue (arc_exists (layout_of c.args.airport.now) s.arc)) c.args.steps.now c.requires in
    rw c.graph.ensures ((at-last (λ s. IsTrue (arc_exists (layout_of c.args.airport.now) s.arc)) c.args.steps.now (record { arc = record { 0 = 0 }; enter = 0; leave = 0 }) some).0 c.requires)

pub returns-clause-reached : goal.returns-clause-reached
returns-clause-reached c =
    let some = AtLast-some (λ s. IsTrue (arc_exists (layout_of c.args.airport.now) s.arc)) c.args.steps.now c.requires in
    (at-last (ReachesNode (layout_of c.args.airport.now) c.head.result) c.args.steps.now (record { arc = record { 0 = 0 }; enter = 0; leave = 0 }) some).1
    (rw c.graph.ensures at (sym c.head.ensures.head))
