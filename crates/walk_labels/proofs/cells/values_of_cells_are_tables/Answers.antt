use Rattle.taxi_base.specs.Airport.{layout_of}
use Rattle.taxi_base.specs.Choices.{ReachesOneOfWithin}
use Rattle.walk_labels.specs.Requests.{BeginsBy}
use Rattle.walk_labels.proofs.LabelTables.{exit_rows, entry_rows}
use Rattle.walk_labels.proofs.cells.values_of_cells_are_tables.Goals as goal

pub returns-clause-exits : goal.returns-clause-exits
returns-clause-exits g c conditions fit cells net are_cells ordered b starts are bound value known none as_many =
    exit_rows value conditions fit cells net are_cells ordered bound known none as_many (BeginsBy (layout_of conditions.airport) b) starts are

pub returns-clause-entries : goal.returns-clause-entries
returns-clause-entries g c conditions fit cells net are_cells ordered nodes earliest latest finishes are bound value known none as_many =
    entry_rows value conditions fit cells net are_cells ordered bound known none as_many (ReachesOneOfWithin (layout_of conditions.airport) nodes earliest latest) finishes are
