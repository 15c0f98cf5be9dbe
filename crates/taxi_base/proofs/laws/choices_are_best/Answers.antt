use Rattle.taxi_base.specs.Airport.{layout_of}
use Rattle.taxi_base.specs.Walks.{LeavesNodeWithin}
use Rattle.taxi_base.proofs.ChoiceLaws.{chosen-earliest, chosen-latest}
use Rattle.taxi_base.proofs.laws.choices_are_best.Goals as goal

pub returns-clause-arrivals : goal.returns-clause-arrivals
returns-clause-arrivals _ = λ c from nodes earliest latest to steps labels. chosen-earliest c (LeavesNodeWithin (layout_of c.airport) from earliest latest) nodes to steps labels

pub returns-clause-departures : goal.returns-clause-departures
returns-clause-departures _ = λ c from nodes earliest latest to steps labels. chosen-latest c from nodes earliest latest to steps labels
