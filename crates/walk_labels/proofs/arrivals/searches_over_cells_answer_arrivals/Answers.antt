use Rattle.taxi_base.specs.Airport.{layout_of}
use Rattle.walk_labels.specs.Requests.{BeginsBy}
use Rattle.walk_labels.proofs.SearchAnswers.{arrival_found, arrival_not_found}
use Rattle.walk_labels.proofs.arrivals.searches_over_cells_answer_arrivals.Goals as goal

pub returns-clause-found : goal.returns-clause-found
returns-clause-found g c conditions fit cells net are_cells ordered b starts are to target targets value known none as_many =
    arrival_found conditions fit cells net are_cells ordered (BeginsBy (layout_of conditions.airport) b) starts are to target targets value known none as_many

pub returns-clause-none : goal.returns-clause-none
returns-clause-none g c conditions fit cells net are_cells ordered b starts are to target targets value known none as_many =
    arrival_not_found conditions fit cells net are_cells ordered (BeginsBy (layout_of conditions.airport) b) starts are to target targets value known none as_many
