use Rattle.taxi_base.specs.Airport.{layout_of}
use Rattle.taxi_base.specs.Walks.{ReachesNodeWithin}
use Rattle.walk_labels.proofs.SearchAnswers.{departure_found, departure_not_found}
use Rattle.walk_labels.proofs.departures.searches_over_cells_answer_departures.Goals as goal

pub returns-clause-found : goal.returns-clause-found
returns-clause-found g c conditions fit cells net are_cells ordered to earliest latest finishes are from source sources value known none as_many =
    departure_found conditions fit cells net are_cells ordered (ReachesNodeWithin (layout_of conditions.airport) to earliest latest) finishes are from source sources value known none as_many

pub returns-clause-none : goal.returns-clause-none
returns-clause-none g c conditions fit cells net are_cells ordered to earliest latest finishes are from source sources value known none as_many =
    departure_not_found conditions fit cells net are_cells ordered (ReachesNodeWithin (layout_of conditions.airport) to earliest latest) finishes are from source sources value known none as_many
