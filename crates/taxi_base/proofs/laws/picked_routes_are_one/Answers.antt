use Rattle.taxi_base.specs.Airport.{layout_of}
use Rattle.taxi_base.specs.Walks.{LeavesNodeWithin, ReachesNodeWithin, Resumes}
use Rattle.taxi_base.proofs.LabelLaws.{HasOneFirstStep-resumes, IsPickedArrival-same, IsPickedDeparture-same}
use Rattle.taxi_base.proofs.AnswerLaws.{HasOneFirstStep-well}
use Rattle.taxi_base.proofs.laws.picked_routes_are_one.Goals as goal

pub returns-clause-leaving : goal.returns-clause-leaving
returns-clause-leaving _ = λ c from to earliest latest steps others well bounded.
    IsPickedArrival-same c (LeavesNodeWithin (layout_of c.airport) from earliest latest) to (HasOneFirstStep-well c from earliest latest well bounded) steps others

pub returns-clause-resumed : goal.returns-clause-resumed
returns-clause-resumed _ = λ c begun exit_from to steps others.
    IsPickedArrival-same c (Resumes begun exit_from) to (HasOneFirstStep-resumes c begun exit_from) steps others

pub returns-clause-reaching : goal.returns-clause-reaching
returns-clause-reaching _ = λ c from to earliest latest steps others.
    IsPickedDeparture-same c (ReachesNodeWithin (layout_of c.airport) to earliest latest) from steps others
