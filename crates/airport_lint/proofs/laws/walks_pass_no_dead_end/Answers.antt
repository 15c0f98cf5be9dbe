use Rattle.airport_lint.proofs.PassedLaws.{arrival-no_dead_end, departure-no_dead_end}
use Rattle.airport_lint.proofs.laws.walks_pass_no_dead_end.Goals as goal

pub returns-clause-arrivals : goal.returns-clause-arrivals
returns-clause-arrivals c = arrival-no_dead_end

pub returns-clause-departures : goal.returns-clause-departures
returns-clause-departures c = departure-no_dead_end
