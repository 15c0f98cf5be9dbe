use Rattle.taxi_base.specs.Faults.{conditions_in}
use Rattle.sequence_exchange.proofs.RouteSteps.{met-arcs, met-few}
use Rattle.sequence_exchange.proofs.serving.put_in_force.Goals as goal

pub prepare-requires-clause-arcs : goal.prepare-requires-clause-arcs
prepare-requires-clause-arcs c =
    met-arcs (conditions_in c.args.airport.now c.args.wish.now.class c.args.ledger.now.state) c.args.wish.now.request c.args.steps.now c.requires.met

pub prepare-requires-clause-few : goal.prepare-requires-clause-few
prepare-requires-clause-few c =
    met-few (conditions_in c.args.airport.now c.args.wish.now.class c.args.ledger.now.state) c.args.wish.now.request c.args.steps.now c.horizon-horizon.ensures.rules c.requires.met
