use Rattle.taxi_base.proofs.LateLaws.{AreInTheWay-same, meetings-once}
use Rattle.taxi_base.proofs.late_laws.those_in_the_way_are_one_list.Goals as goal

pub returns-clause-one : goal.returns-clause-one
returns-clause-one c = AreInTheWay-same

pub returns-clause-once : goal.returns-clause-once
returns-clause-once c = λ airport state delay meetings feasible is way. meetings-once airport state delay feasible is meetings way
