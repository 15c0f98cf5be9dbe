use Rattle.walk_labels.proofs.RequestCells.{starts_by-are, finishes_at-are, targets_at-are, sources_at_node-are}
use Rattle.walk_labels.proofs.cells.starts_and_finishes_are_those_of_requests.Goals as goal

pub returns-clause-starts : goal.returns-clause-starts
returns-clause-starts g c = starts_by-are

pub returns-clause-finishes : goal.returns-clause-finishes
returns-clause-finishes g c = finishes_at-are

pub returns-clause-targets : goal.returns-clause-targets
returns-clause-targets g c = targets_at-are

pub returns-clause-sources : goal.returns-clause-sources
returns-clause-sources g c = sources_at_node-are
