use Rattle.std.proofs.Common.{None}
use Rattle.taxi_base.specs.Walks.{conditions_among}
use Rattle.check_walks.proofs.ToldLaws.{no_route-first}
use Rattle.check_walks.proofs.choice.check_no_route_to_any.Goals as goal

pub returns-clause-first : goal.returns-clause-first
returns-clause-first g c others among s seeks =
    let conditions = conditions_among c.args.airport.now c.args.class (g.H.HoldsOf.held c.args.holds.now) in
    rw c.rule_of.ensures
    (no_route-first s conditions c.args.sought.now.request others None None seeks c.args.labels.now c.in_ok-verdict.verdict (c.in_ok-verdict.ensures.verdict others among))
