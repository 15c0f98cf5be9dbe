use Rattle.std.proofs.Common.{[]}
use Rattle.taxi_base.specs.Walks.{conditions_among}
use Rattle.check_rows.proofs.LoopLaws.{says-no, says-yes}
use Rattle.check_walks.specs.Course.{way_of}
use Rattle.check_walks.proofs.ToldLaws.{route-first, route-broken, among-alone, alone-among}
use Rattle.check_walks.proofs.told.check_route.Goals as goal

pub returns-then-not-walk-clause-first : goal.returns-then-not-walk-clause-first
returns-then-not-walk-clause-first g c s seeks name =
    let conditions = conditions_among c.args.airport.now c.args.class (g.H.HoldsOf.held c.args.holds.now) in
    let sought = c.args.sought.now in
    let told = c.args.told.now in
    route-broken s conditions sought.request [] (way_of sought.way) sought.floor seeks name told.second told.steps.now told.labels.now
    (λ is. says-no _ c.if-not-walk.true c.in_ok-walk.ensures.walk (alone-among conditions sought.request (way_of sought.way) told.steps.now is.0, is.1, is.2))

pub returns-clause-first : goal.returns-clause-first
returns-clause-first g c s seeks name =
    let conditions = conditions_among c.args.airport.now c.args.class (g.H.HoldsOf.held c.args.holds.now) in
    let sought = c.args.sought.now in
    let told = c.args.told.now in
    let walk = says-yes _ c.if-not-walk.false c.in_ok-walk.ensures.walk in
    rw c.rule_of.ensures
    (route-first s conditions sought.request [] (way_of sought.way) sought.floor seeks name told.second told.steps.now told.labels.now c.in_ok-verdict.verdict
    (among-alone conditions sought.request (way_of sought.way) told.steps.now walk.0, walk.1, walk.2) c.in_ok-verdict.ensures.verdict)
