use Rattle.walk_labels.proofs.CheckedArrivals.{begun_none_sooner, begun_none_at_all, resumed_none_sooner, resumed_none_at_all}
use Rattle.walk_labels.proofs.arrivals.tables_that_pass_leave_no_arrival_out.Goals as goal

pub returns-clause-sooner : goal.returns-clause-sooner
returns-clause-sooner c = begun_none_sooner

pub returns-clause-none : goal.returns-clause-none
returns-clause-none c = begun_none_at_all

pub returns-clause-resumed_sooner : goal.returns-clause-resumed_sooner
returns-clause-resumed_sooner c = resumed_none_sooner

pub returns-clause-resumed_none : goal.returns-clause-resumed_none
returns-clause-resumed_none c = resumed_none_at_all
