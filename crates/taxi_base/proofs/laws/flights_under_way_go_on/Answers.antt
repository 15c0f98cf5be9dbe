use Rattle.taxi_base.proofs.AgainLaws.{again-best, old-frozen, frozen-meets}
use Rattle.taxi_base.proofs.laws.flights_under_way_go_on.Goals as goal

pub returns-clause-best : goal.returns-clause-best
returns-clause-best c = λ c old time target request found walk answers. again-best c old time target walk request found answers

pub returns-clause-old : goal.returns-clause-old
returns-clause-old c = old-frozen

pub returns-clause-meets : goal.returns-clause-meets
returns-clause-meets c = frozen-meets
