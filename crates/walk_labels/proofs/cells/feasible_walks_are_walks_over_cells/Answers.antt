use Rattle.taxi_base.specs.Airport.{layout_of}
use Rattle.taxi_base.specs.Choices.{ReachesOneOfWithin}
use Rattle.walk_labels.specs.Requests.{BeginsBy}
use Rattle.walk_labels.proofs.CellWalks.{walk_of_steps, steps_of_walk, walk_to_of_steps, steps_of_walk_to}
use Rattle.walk_labels.proofs.cells.feasible_walks_are_walks_over_cells.Goals as goal

pub returns-clause-there : goal.returns-clause-there
returns-clause-there g c conditions fit net place cells b = walk_of_steps conditions fit net place cells (BeginsBy (layout_of conditions.airport) b)

pub returns-clause-back : goal.returns-clause-back
returns-clause-back g c conditions fit net place cells b = steps_of_walk conditions fit net place cells (BeginsBy (layout_of conditions.airport) b)

pub returns-clause-ending_there : goal.returns-clause-ending_there
returns-clause-ending_there g c conditions fit net place cells nodes earliest latest =
    walk_to_of_steps conditions fit net place cells (ReachesOneOfWithin (layout_of conditions.airport) nodes earliest latest)

pub returns-clause-ending_back : goal.returns-clause-ending_back
returns-clause-ending_back g c conditions fit net place cells nodes earliest latest =
    steps_of_walk_to conditions fit net place cells (ReachesOneOfWithin (layout_of conditions.airport) nodes earliest latest)
