use Rattle.std.proofs.Common.{◌≤◌, length, get_or, IsTrue, arith}
use Rattle.std.proofs.lemmas.List.Elements.{All-contains}
use Rattle.taxi_base.specs.Airport.{layout_of, arc_exists}
use Rattle.class_ways.specs.Found.{has_arc}
use Rattle.class_ways.proofs.FoundLaws.{has-Contains}
use Rattle.class_ways.proofs.SpreadLaws.{met-exists, spread-on, spread-all}
use Rattle.class_ways.proofs.met.spread.Goals as goal

pub go_on-requires-clause-exist : goal.go_on-requires-clause-exist
go_on-requires-clause-exist c k d low =
    met-exists c.args.course c.args.airport.now c.args.class (has_arc c.args.found.now.arcs)
    (λ arc has. All-contains (λ arc. IsTrue (arc_exists (layout_of c.args.airport.now) arc)) c.args.found.now.arcs arc c.requires.exist (has-Contains c.args.found.now.arcs arc has))
    (get_or c.loop-at.found.arcs k d) (c.loop-at.invariant.met k d low)

pub loop-at-preserved : goal.loop-at-preserved
loop-at-preserved c =
    spread-on c.args.course c.args.airport.now c.args.class (has_arc c.args.found.now.arcs) c.loop-at.at c.loop-at.found c.go_on.new.found c.loop-at.invariant c.in_ok-go_on.ensures

pub returns : goal.returns
returns c =
    let past : length c.loop-at.found.arcs ≤ c.loop-at.at =
    let test = c.loop-at-test.false in
    let few = c.limit-limit.ensures.few in
    omega (arith, test, few, c.limit-at-end.ensures.limit, c.loop-at.invariant.limit, c.requires.limit) in
    spread-all c.args.course c.args.airport.now c.args.class (has_arc c.args.found.now.arcs) c.loop-at.at c.loop-at.found c.loop-at.invariant past
