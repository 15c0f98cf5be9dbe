use Rattle.taxi_base.specs.Airport.{layout_of}
use Rattle.taxi_base.specs.Walks.{ReachesNodeWithin}
use Rattle.taxi_base.proofs.AnswerLaws.{found_after-answers}
use Rattle.taxi_base.proofs.laws.departures_are_answered_after_a_second.Goals as goal

pub returns : goal.returns
returns _ = λ c from to earliest latest bound found. found_after-answers c from (ReachesNodeWithin (layout_of c.airport) to earliest latest) bound found
