use Rattle.walk_labels.proofs.CheckedDepartures.{ended_none_later, ended_none_at_all}
use Rattle.walk_labels.proofs.departures.tables_that_pass_leave_no_departure_out.Goals as goal

pub returns-clause-later : goal.returns-clause-later
returns-clause-later c = ended_none_later

pub returns-clause-none : goal.returns-clause-none
returns-clause-none c = ended_none_at_all
