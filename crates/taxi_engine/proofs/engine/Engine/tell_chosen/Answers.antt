use Rattle.std.proofs.Common.{◌∙◌, Ok, ap, subst}
use Rattle.std.specs.Prelude.{IfOk}
use Rattle.taxi_base.specs.declared.answers.Chosen.TheVariants as chosen
use Rattle.taxi_base.specs.Airport.{IsWellFormed}
use Rattle.taxi_base.specs.State.{holds_in}
use Rattle.taxi_base.specs.Faults.{conditions_in}
use Rattle.replies.specs.Asked.{AnswersChoice}
use Rattle.replies.proofs.ChoiceNames.{chosen-meets}
use Rattle.taxi_engine.specs.Engine.{EngineState}
use Rattle.taxi_engine.specs.Choosing.{choice_of}
use Rattle.taxi_engine.proofs.ChosenDue.{chosen-arcs}
use Rattle.taxi_engine.proofs.engine.Engine.tell_chosen.Goals as goal

pub take_route-requires-clause-met : goal.take_route-requires-clause-met
take_route-requires-clause-met c =
    let k = conditions_in c.args.self.now.airport c.args.trip.now.class c.args.self.now.state in
    rw c.request_for.ensures (chosen-meets k (choice_of c.args.trip.now c.args.movement) c.in-Ok-Route.to c.in-Ok-Route.steps c.in-Ok-Route.labels
    (subst (λ r. IfOk r (AnswersChoice k (choice_of c.args.trip.now c.args.movement))) (c.in-Ok-Route.is ∙ ap Ok c.in-Ok-Route.field-0-is) c.requires.answers))

pub take_route-requires-clause-labels : goal.take_route-requires-clause-labels
take_route-requires-clause-labels c =
    chosen-arcs c.args.self.now.airport c.args.trip.now.class (holds_in c.args.self.now.airport c.args.self.now.state) (subst (λ (s : EngineState). IsWellFormed s.airport) c.self.view_is c.horizon.ensures.rules)
    (choice_of c.args.trip.now c.args.movement) (chosen.Route c.in-Ok-Route.to c.in-Ok-Route.steps c.in-Ok-Route.labels)
    (subst (λ r. IfOk r (AnswersChoice (conditions_in c.args.self.now.airport c.args.trip.now.class c.args.self.now.state) (choice_of c.args.trip.now c.args.movement))) (c.in-Ok-Route.is ∙ ap Ok c.in-Ok-Route.field-0-is) c.requires.answers)

pub tell_no_route-requires : goal.tell_no_route-requires
tell_no_route-requires c =
    chosen-arcs c.args.self.now.airport c.args.trip.now.class (holds_in c.args.self.now.airport c.args.self.now.state) (subst (λ (s : EngineState). IsWellFormed s.airport) c.self.view_is c.horizon.ensures.rules)
    (choice_of c.args.trip.now c.args.movement) (chosen.NoRoute c.in-Ok-NoRoute.labels)
    (subst (λ r. IfOk r (AnswersChoice (conditions_in c.args.self.now.airport c.args.trip.now.class c.args.self.now.state) (choice_of c.args.trip.now c.args.movement))) (c.in-Ok-NoRoute.is ∙ ap Ok c.in-Ok-NoRoute.field-0-is) c.requires.answers)
