use Rattle.walk_labels.proofs.CheckedDepartures.{ended_closed_table}
use Rattle.walk_labels.proofs.departures.closed_tables_have_all_entries.Goals as goal

pub returns : goal.returns
returns c = ended_closed_table
