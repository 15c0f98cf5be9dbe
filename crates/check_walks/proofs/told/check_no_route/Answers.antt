use Rattle.std.proofs.Common.{[]}
use Rattle.taxi_base.specs.Walks.{conditions_among}
use Rattle.check_walks.specs.Course.{way_of}
use Rattle.check_walks.proofs.ToldLaws.{no_route-first}
use Rattle.check_walks.proofs.told.check_no_route.Goals as goal

pub returns-clause-first : goal.returns-clause-first
returns-clause-first g c s seeks =
    let conditions = conditions_among c.args.airport.now c.args.class (g.H.HoldsOf.held c.args.holds.now) in
    let sought = c.args.sought.now in
    rw c.rule_of.ensures
    (no_route-first s conditions sought.request [] (way_of sought.way) sought.floor seeks c.args.labels.now c.in_ok-verdict.verdict c.in_ok-verdict.ensures.verdict)
