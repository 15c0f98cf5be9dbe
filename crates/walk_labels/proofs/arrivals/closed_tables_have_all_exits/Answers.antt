use Rattle.walk_labels.proofs.CheckedArrivals.{begun_closed_table}
use Rattle.walk_labels.proofs.arrivals.closed_tables_have_all_exits.Goals as goal

pub returns : goal.returns
returns c = begun_closed_table
