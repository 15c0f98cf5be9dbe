use Rattle.std.proofs.Common.{◌≡◌, sym, subst}
use Rattle.std.specs.Prelude.{IfSome}
use Rattle.taxi_base.specs.declared.answers.Found.TheVariants as found
use Rattle.taxi_base.specs.declared.answers.Refusal.{Refusal}
use Rattle.taxi_base.specs.State.{State, flight_named, with_flight, without, IsSound}
use Rattle.replies.specs.declared.block.Block.TheVariants.{Route, NoRoute}
use Rattle.replies.specs.CarriedOut.{second_of}
use Rattle.replies.specs.Replies.{refused}
use Rattle.reroute.specs.Refused.{again_refusal}
use Rattle.taxi_engine.specs.Engine.{EngineState}
use Rattle.taxi_engine.specs.Done.{IsDone}
use Rattle.taxi_engine.specs.Routed.{IsToldOrMemory}
use Rattle.taxi_engine.specs.Rerouted.{refusal_told, request_to, IsFoundAgainTold, IsToldAgain}
use Rattle.taxi_engine.proofs.ReroutedTold.{flight-meets, IsFoundFor, found-unrefused, found-arcs, made-another, route-told, no_route-told, as-before-kept, refused-told}
use Rattle.taxi_engine.proofs.engine.Engine.route_again.Goals as goal

pub again-requires-clause-meets : goal.again-requires-clause-meets
again-requires-clause-meets c x there = flight-meets c.self.inside.airport c.self.inside.ledger.state c.self.invariant.0 c.args.name.now x there

pub change_route-requires-clause-another : goal.change_route-requires-clause-another
change_route-requires-clause-another c =
    let airport = c.self.inside.airport in
    let same = c.again.ensures.as_before.state in
    let told = rw c.in-Ok-Route.field-0-is at c.in-Ok-Route.ensures.found in
    made-another airport c.again.new.ledger.state c.args.name.now c.args.time c.args.to
    (subst (IsSound airport) (sym same) c.self.invariant.0) c.in-Ok-Route.steps c.in-Ok-Route.labels
    (subst (λ (s : State). IsFoundFor airport s c.args.name.now c.args.time c.args.to (found.Route c.in-Ok-Route.steps c.in-Ok-Route.labels)) (sym same) told)
    c.on_another_route-flight.result c.on_another_route-flight.ensures

pub change_route-requires-clause-labels : goal.change_route-requires-clause-labels
change_route-requires-clause-labels c =
    found-arcs c.self.inside.airport c.self.inside.ledger.state c.args.name.now c.args.time c.args.to c.horizon.ensures.rules (found.Route c.in-Ok-Route.steps c.in-Ok-Route.labels)
    (rw c.in-Ok-Route.field-0-is at c.in-Ok-Route.ensures.found)

pub tell_no_route-requires : goal.tell_no_route-requires
tell_no_route-requires c =
    found-arcs c.self.inside.airport c.self.inside.ledger.state c.args.name.now c.args.time c.args.to c.horizon.ensures.rules (found.NoRoute c.in-Ok-NoRoute.labels)
    (rw c.in-Ok-NoRoute.field-0-is at c.in-Ok-NoRoute.ensures.found)

pub returns-in-Ok-Route : goal.returns-in-Ok-Route
returns-in-Ok-Route c =
    let airport = c.self.inside.airport in
    let name = c.args.name.now in
    let flight = c.on_another_route-flight.result in
    let steps = c.in-Ok-Route.steps in
    let labels = c.in-Ok-Route.labels in
    let same = c.again.ensures.as_before.state in
    let none = found-unrefused (again_refusal c.self.inside.ledger.state.flights name c.args.time c.args.to) c.in-Ok-Route.field-0 c.in-Ok-Route.ensures.refused in
    let told = rw c.in-Ok-Route.field-0-is at c.in-Ok-Route.ensures.found in
    let made = subst (λ (s : State). IfSome (flight_named name s.flights) (λ f. flight ≡ record f { name = name; request = request_to c.args.to f.request; steps = steps })) same c.on_another_route-flight.ensures in
    subst (λ (s : EngineState). IsToldAgain name c.args.time c.args.to s c.change_route.new.self) c.self.view_is
    (route-told airport c.self.inside.ledger.state c.self.inside.reply c.change_route.new.self name c.args.time c.args.to none c.self.invariant.0 steps labels told flight made
    (subst (λ (s : State). IsToldOrMemory (record { block = Route flight.name (second_of flight.request flight.steps) flight.steps labels; after = with_flight flight (without flight.name s) })
    (record { airport = airport; state = s; reply = c.self.inside.reply }) c.change_route.new.self) same c.change_route.ensures))

pub returns-in-Ok-NoRoute : goal.returns-in-Ok-NoRoute
returns-in-Ok-NoRoute c =
    let airport = c.self.inside.airport in
    let name = c.args.name.now in
    let labels = c.in-Ok-NoRoute.labels in
    let same = c.again.ensures.as_before.state in
    let none = found-unrefused (again_refusal c.self.inside.ledger.state.flights name c.args.time c.args.to) c.in-Ok-NoRoute.field-0 c.in-Ok-NoRoute.ensures.refused in
    let told = rw c.in-Ok-NoRoute.field-0-is at c.in-Ok-NoRoute.ensures.found in
    subst (λ (s : EngineState). IsToldAgain name c.args.time c.args.to s c.tell_no_route.new.self) c.self.view_is
    (no_route-told airport c.self.inside.ledger.state c.self.inside.reply c.tell_no_route.new.self name c.args.time c.args.to none labels told
    (subst (λ (s : State). IsToldOrMemory (record { block = NoRoute labels; after = s }) (record { airport = airport; state = s; reply = c.self.inside.reply }) c.tell_no_route.new.self)
    same c.tell_no_route.ensures))

pub invariant_of-self : goal.invariant_of-self
invariant_of-self c = as-before-kept c.self.inside.airport c.self.inside.ledger c.again.new.ledger c.again.ensures.as_before c.self.invariant.0 c.self.invariant.2

pub invariant_of-self-in-Ok-NoRoute : goal.invariant_of-self-in-Ok-NoRoute
invariant_of-self-in-Ok-NoRoute c = as-before-kept c.self.inside.airport c.self.inside.ledger c.again.new.ledger c.again.ensures.as_before c.self.invariant.0 c.self.invariant.2

pub invariant_of-self-in-Err : goal.invariant_of-self-in-Err
invariant_of-self-in-Err c = as-before-kept c.self.inside.airport c.self.inside.ledger c.again.new.ledger c.again.ensures.as_before c.self.invariant.0 c.self.invariant.2

pub returns-in-Err : goal.returns-in-Err
returns-in-Err c =
    let name = c.args.name.now in
    let old : EngineState = record { airport = c.self.inside.airport; state = c.self.inside.ledger.state; reply = c.self.inside.reply } in
    let told : IsDone (refused old.state (refusal_told c.in-Err.why)) old c.refuse.new.self =
    subst (λ (why : Refusal). IsDone (refused old.state why) old c.refuse.new.self) c.refusal_told.ensures
    (subst (λ (s : State). IsDone (refused s c.refusal_told.result) old c.refuse.new.self) c.again.ensures.as_before.state c.refuse.ensures) in
    subst (λ (s : EngineState). IsToldAgain name c.args.time c.args.to s c.refuse.new.self) c.self.view_is
    (refused-told (IsFoundAgainTold name c.args.time c.args.to old c.refuse.new.self) (again_refusal old.state.flights name c.args.time c.args.to) c.in-Err.why
    (λ (why : Refusal). IsDone (refused old.state why) old c.refuse.new.self) c.in-Err.ensures.refused told)
