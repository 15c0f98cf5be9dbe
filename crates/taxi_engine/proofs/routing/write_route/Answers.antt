use Rattle.std.proofs.Common.{◌<◌, length, List, sym, subst}
use Rattle.std.specs.Prelude.{All}
use Rattle.taxi_base.specs.declared.rows.Step.{Step}
use Rattle.replies.specs.Printable.{HasArc}
use Rattle.taxi_engine.proofs.RouteLaws.{walk-arcs, walk-steps}
use Rattle.taxi_engine.proofs.routing.write_route.Goals as goal

pub second_of-second-requires : goal.second_of-second-requires
second_of-second-requires c =
    subst (λ (steps : List Step). 0 < length steps) (sym c.as_slice-steps.ensures) (walk-steps c.args.airport.now c.args.flight.now.steps c.requires.walk)

pub print_route-requires-clause-steps : goal.print_route-requires-clause-steps
print_route-requires-clause-steps c =
    subst (λ (steps : List Step). All (λ s. HasArc c.args.airport.now s.arc) steps) (sym c.as_slice-steps.ensures) (walk-arcs c.args.airport.now c.args.flight.now.steps c.requires.walk)
