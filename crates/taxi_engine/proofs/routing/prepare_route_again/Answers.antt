use Rattle.std.proofs.Common.{◌<◌, ◌^◌, length, List, sym, subst}
use Rattle.std.specs.Prelude.{All}
use Rattle.taxi_base.specs.declared.rows.Step.{Step}
use Rattle.replies.specs.Printable.{HasArc}
use Rattle.taxi_engine.proofs.RouteLaws.{walk-arcs, steps-few}
use Rattle.taxi_engine.proofs.routing.prepare_route_again.Goals as goal

pub prepare_again-requires-clause-arcs : goal.prepare_again-requires-clause-arcs
prepare_again-requires-clause-arcs c =
    subst (λ (steps : List Step). All (λ s. HasArc c.args.airport.now s.arc) steps) (sym c.as_slice.ensures) (walk-arcs c.args.airport.now c.args.flight.now.steps c.requires.walk)

pub prepare_again-requires-clause-few : goal.prepare_again-requires-clause-few
prepare_again-requires-clause-few c =
    subst (λ (steps : List Step). length steps < 2 ^ 32) (sym c.as_slice.ensures) (steps-few c.args.airport.now c.args.flight.now.steps c.requires.walk c.horizon.ensures.rules)
