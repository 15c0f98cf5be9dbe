use Rattle.airport_lint.proofs.PassedLaws.{arrival-no_unused, departure-no_unused}
use Rattle.airport_lint.proofs.laws.walks_pass_no_unused_node.Goals as goal

pub returns-clause-arrivals : goal.returns-clause-arrivals
returns-clause-arrivals c = arrival-no_unused

pub returns-clause-departures : goal.returns-clause-departures
returns-clause-departures c = departure-no_unused
