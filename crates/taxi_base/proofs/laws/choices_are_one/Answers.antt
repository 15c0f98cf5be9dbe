use Rattle.taxi_base.specs.Airport.{layout_of}
use Rattle.taxi_base.specs.Walks.{LeavesNodeWithin}
use Rattle.taxi_base.proofs.AnswerLaws.{HasOneFirstStep-well}
use Rattle.taxi_base.proofs.ChoiceLaws.{AnswersArrivalChoice-same, AnswersDepartureChoice-same}
use Rattle.taxi_base.proofs.laws.choices_are_one.Goals as goal

pub returns-clause-arrivals : goal.returns-clause-arrivals
returns-clause-arrivals _ = λ c from nodes earliest latest chosen others well bounded are.
    AnswersArrivalChoice-same c (LeavesNodeWithin (layout_of c.airport) from earliest latest) nodes well are (HasOneFirstStep-well c from earliest latest well bounded) chosen others

pub returns-clause-departures : goal.returns-clause-departures
returns-clause-departures _ = λ c from nodes earliest latest chosen others well are.
    AnswersDepartureChoice-same c from nodes earliest latest well are chosen others
