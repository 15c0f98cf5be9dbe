use Rattle.taxi_base.specs.Airport.{layout_of}
use Rattle.taxi_base.specs.Choices.{ReachesOneOfWithin}
use Rattle.walk_labels.specs.Requests.{BeginsBy}
use Rattle.walk_labels.proofs.CellLabels.{exit_label, exit_of_cell, entry_label, entry_of_cell}
use Rattle.walk_labels.proofs.cells.labels_are_values_of_cells.Goals as goal

pub returns-clause-exits : goal.returns-clause-exits
returns-clause-exits g c conditions fit net place cells b starts are x t is = (
  λ h. (exit_label conditions fit net place cells (BeginsBy (layout_of conditions.airport) b) starts are x t h).1,
  λ h. exit_of_cell conditions fit net place cells (BeginsBy (layout_of conditions.airport) b) starts are x t is h,
)

pub returns-clause-entries : goal.returns-clause-entries
returns-clause-entries g c conditions fit net place cells nodes earliest latest finishes are x t is = (
  λ h. (entry_label conditions fit net place cells (ReachesOneOfWithin (layout_of conditions.airport) nodes earliest latest) finishes are x t h).1,
  λ h. entry_of_cell conditions fit net place cells (ReachesOneOfWithin (layout_of conditions.airport) nodes earliest latest) finishes are x t is h,
)
