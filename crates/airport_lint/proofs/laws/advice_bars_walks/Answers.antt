use Rattle.airport_lint.proofs.BarLaws.{barred-arrival, barred-departure}
use Rattle.airport_lint.proofs.laws.advice_bars_walks.Goals as goal

pub returns-clause-arrivals : goal.returns-clause-arrivals
returns-clause-arrivals c = barred-arrival

pub returns-clause-departures : goal.returns-clause-departures
returns-clause-departures c = barred-departure
