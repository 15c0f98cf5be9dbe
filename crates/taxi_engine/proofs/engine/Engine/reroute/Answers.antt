use Rattle.taxi_engine.proofs.ReroutedDue.{reroute-done}
use Rattle.taxi_engine.proofs.engine.Engine.reroute.Goals as goal

pub returns : goal.returns
returns c = reroute-done c.args.self.now c.route_again.new.self c.args.flight.now c.args.time c.route_again.ensures
