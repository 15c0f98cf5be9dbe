use Rattle.std.proofs.Common.{◌<◌, ◌^◌, length, List, sym, subst}
use Rattle.std.specs.Prelude.{All}
use Rattle.taxi_base.specs.declared.rows.Step.{Step}
use Rattle.replies.specs.Printable.{HasArc}
use Rattle.taxi_engine.proofs.RouteLaws.{walk-arcs, steps-few}
use Rattle.taxi_engine.proofs.routing.prepare_route.Goals as goal

pub prepare-requires-clause-arcs : goal.prepare-requires-clause-arcs
prepare-requires-clause-arcs c =
    subst (λ (steps : List Step). All (λ s. HasArc c.args.airport.now s.arc) steps) (sym c.as_slice.ensures) (walk-arcs c.args.airport.now c.args.flight.now.steps c.requires.walk)

pub prepare-requires-clause-few : goal.prepare-requires-clause-few
prepare-requires-clause-few c =
    subst (λ (steps : List Step). length steps < 2 ^ 32) (sym c.as_slice.ensures) (steps-few c.args.airport.now c.args.flight.now.steps c.requires.walk c.horizon.ensures.rules)
