use Rattle.taxi_base.proofs.FaultLaws.{route_fault-None, hold_fault-None}
use Rattle.taxi_base.proofs.laws.routes_without_fault_are_feasible.Goals as goal

pub returns-clause-routes : goal.returns-clause-routes
returns-clause-routes c = route_fault-None

pub returns-clause-holds : goal.returns-clause-holds
returns-clause-holds c = hold_fault-None
