use Rattle.taxi_base.proofs.TurnLaws.{IsFeasibleState-with_route, frozen-meets_begin}
use Rattle.taxi_base.proofs.late_laws.flights_go_on_in_feasible_states.Goals as goal

pub returns-clause-route : goal.returns-clause-route
returns-clause-route c = IsFeasibleState-with_route

pub returns-clause-meets : goal.returns-clause-meets
returns-clause-meets c = frozen-meets_begin
