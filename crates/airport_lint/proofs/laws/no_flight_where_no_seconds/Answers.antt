use Rattle.airport_lint.proofs.BarLaws.{barred-step}
use Rattle.airport_lint.proofs.laws.no_flight_where_no_seconds.Goals as goal

pub returns : goal.returns
returns c = barred-step
