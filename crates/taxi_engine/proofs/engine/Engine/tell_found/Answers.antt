use Rattle.std.proofs.Common.{◌∙◌, Ok, ap, subst}
use Rattle.std.specs.Prelude.{IfOk}
use Rattle.taxi_base.specs.declared.answers.Found.TheVariants as found
use Rattle.taxi_base.specs.Airport.{IsWellFormed}
use Rattle.taxi_base.specs.State.{holds_in}
use Rattle.taxi_base.specs.Faults.{conditions_in}
use Rattle.replies.specs.Asked.{AnswersRequest}
use Rattle.taxi_engine.specs.Engine.{EngineState}
use Rattle.taxi_engine.proofs.RouteLaws.{label-arcs}
use Rattle.taxi_engine.proofs.engine.Engine.tell_found.Goals as goal

pub take_route-requires-clause-labels : goal.take_route-requires-clause-labels
take_route-requires-clause-labels c =
    label-arcs c.args.self.now.airport c.args.wish.now.class (holds_in c.args.self.now.airport c.args.self.now.state) (subst (λ (s : EngineState). IsWellFormed s.airport) c.self.view_is c.horizon.ensures.rules)
    c.args.wish.now.request (found.Route c.in-Ok-Route.steps c.in-Ok-Route.labels)
    (subst (λ r. IfOk r (AnswersRequest (conditions_in c.args.self.now.airport c.args.wish.now.class c.args.self.now.state) c.args.wish.now.request)) (c.in-Ok-Route.is ∙ ap Ok c.in-Ok-Route.field-0-is) c.requires.answers)

pub tell_no_route-requires : goal.tell_no_route-requires
tell_no_route-requires c =
    label-arcs c.args.self.now.airport c.args.wish.now.class (holds_in c.args.self.now.airport c.args.self.now.state) (subst (λ (s : EngineState). IsWellFormed s.airport) c.self.view_is c.horizon.ensures.rules)
    c.args.wish.now.request (found.NoRoute c.in-Ok-NoRoute.labels)
    (subst (λ r. IfOk r (AnswersRequest (conditions_in c.args.self.now.airport c.args.wish.now.class c.args.self.now.state) c.args.wish.now.request)) (c.in-Ok-NoRoute.is ∙ ap Ok c.in-Ok-NoRoute.field-0-is) c.requires.answers)
