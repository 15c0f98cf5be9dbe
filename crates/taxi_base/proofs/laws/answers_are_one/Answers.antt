use Rattle.taxi_base.specs.Airport.{layout_of}
use Rattle.taxi_base.specs.Walks.{LeavesNodeWithin, ReachesNodeWithin, Resumes}
use Rattle.taxi_base.proofs.LabelLaws.{HasOneFirstStep-resumes}
use Rattle.taxi_base.proofs.AnswerLaws.{HasOneFirstStep-well, AnswersArrival-same, AnswersDeparture-same, AnswersDepartureAfter-same}
use Rattle.taxi_base.proofs.laws.answers_are_one.Goals as goal

pub returns-clause-leaving : goal.returns-clause-leaving
returns-clause-leaving _ = λ c from to earliest latest found others well bounded.
    AnswersArrival-same c (LeavesNodeWithin (layout_of c.airport) from earliest latest) to (HasOneFirstStep-well c from earliest latest well bounded) found others

pub returns-clause-resumed : goal.returns-clause-resumed
returns-clause-resumed _ = λ c begun exit_from to found others.
    AnswersArrival-same c (Resumes begun exit_from) to (HasOneFirstStep-resumes c begun exit_from) found others

pub returns-clause-reaching : goal.returns-clause-reaching
returns-clause-reaching _ = λ c from to earliest latest found others.
    AnswersDeparture-same c from (ReachesNodeWithin (layout_of c.airport) to earliest latest) found others

pub returns-clause-after : goal.returns-clause-after
returns-clause-after _ = λ c from to earliest latest bound found others.
    AnswersDepartureAfter-same c from (ReachesNodeWithin (layout_of c.airport) to earliest latest) bound found others
