use Rattle.std.proofs.Common.{None}
use Rattle.taxi_base.specs.Walks.{conditions_among}
use Rattle.check_rows.proofs.LoopLaws.{says-no, says-yes}
use Rattle.check_walks.proofs.ToldLaws.{route-first, route-broken}
use Rattle.check_walks.proofs.choice.check_route_to_any.Goals as goal

pub returns-then-not-walk-clause-first : goal.returns-then-not-walk-clause-first
returns-then-not-walk-clause-first g c others among s seeks name =
    let conditions = conditions_among c.args.airport.now c.args.class (g.H.HoldsOf.held c.args.holds.now) in
    let told = c.args.told.now in
    route-broken s conditions c.args.sought.now.request others None None seeks name told.second told.steps.now told.labels.now
    (λ is. says-no _ c.if-not-walk.true (c.in_ok-walk.ensures.walk others among) (is.0, is.2))

pub returns-clause-first : goal.returns-clause-first
returns-clause-first g c others among s seeks name =
    let conditions = conditions_among c.args.airport.now c.args.class (g.H.HoldsOf.held c.args.holds.now) in
    let told = c.args.told.now in
    let walk = says-yes _ c.if-not-walk.false (c.in_ok-walk.ensures.walk others among) in
    rw c.rule_of.ensures
    (route-first s conditions c.args.sought.now.request others None None seeks name told.second told.steps.now told.labels.now c.in_ok-verdict.verdict (walk.0, tt, walk.1)
    (c.in_ok-verdict.ensures.verdict others among))
