use Rattle.taxi_base.specs.Airport.{layout_of}
use Rattle.taxi_base.specs.Choices.{ReachesOneOfWithin}
use Rattle.walk_labels.specs.Requests.{BeginsBy}
use Rattle.walk_labels.proofs.CellLabels.{best_end, end_is_best, no_route, best_begin, begin_is_best, no_route_from}
use Rattle.walk_labels.proofs.cells.best_walks_are_best_over_cells.Goals as goal

pub returns-clause-ends : goal.returns-clause-ends
returns-clause-ends g c conditions fit net place cells b starts are to target targets end = (
  best_end conditions fit net place cells (BeginsBy (layout_of conditions.airport) b) starts are to target targets end,
  end_is_best conditions fit net place cells (BeginsBy (layout_of conditions.airport) b) starts are to target targets end,
)

pub returns-clause-no_end : goal.returns-clause-no_end
returns-clause-no_end g c conditions fit net place cells b = no_route conditions fit net place cells (BeginsBy (layout_of conditions.airport) b)

pub returns-clause-begins : goal.returns-clause-begins
returns-clause-begins g c conditions fit net place cells to earliest latest finishes are from source sources begin = (
  best_begin conditions fit net place cells (ReachesOneOfWithin (layout_of conditions.airport) to earliest latest) finishes are from source sources begin,
  begin_is_best conditions fit net place cells (ReachesOneOfWithin (layout_of conditions.airport) to earliest latest) finishes are from source sources begin,
)

pub returns-clause-no_begin : goal.returns-clause-no_begin
returns-clause-no_begin g c conditions fit net place cells to earliest latest =
    no_route_from conditions fit net place cells (ReachesOneOfWithin (layout_of conditions.airport) to earliest latest)
