use Rattle.std.proofs.Common.{◌≡◌, ◌∙◌, sym, ap, subst, inl}
use Rattle.taxi_base.specs.declared.answers.Flight.{Flight}
use Rattle.taxi_base.specs.Walks.{IsFeasibleWalk}
use Rattle.taxi_base.specs.State.{State, with_flight, with_route, without, conditions_of, IsSound}
use Rattle.replies.specs.declared.block.Block.TheVariants.{Route}
use Rattle.replies.specs.Texts.{block_text}
use Rattle.replies.specs.CarriedOut.{second_of}
use Rattle.replies.specs.Replies.{HaveNames}
use Rattle.taxi_engine.specs.Engine.{EngineState}
use Rattle.taxi_engine.specs.Routed.{IsToldOrMemory}
use Rattle.taxi_engine.specs.Rerouted.{IsOnAnother}
use Rattle.command_refusals.proofs.CallLaws.{done_ok}
use Rattle.taxi_engine.proofs.ReroutedTold.{lifted-old, another-feasible, another-after, another-sound, another-names}
use Rattle.taxi_engine.proofs.engine.Engine.change_route.Goals as goal

pub prepare_route_again-requires-clause-walk : goal.prepare_route_again-requires-clause-walk
prepare_route_again-requires-clause-walk c = record {
  conditions = conditions_of c.args.self.now.airport c.args.self.now.state c.requires.another.old;
  here = sym (ap (λ (s : EngineState). s.airport) c.self.view_is);
  walk = another-feasible c.args.self.now.airport c.args.self.now.state c.args.flight c.requires.another;
}

pub replace-requires-clause-prepared : goal.replace-requires-clause-prepared
replace-requires-clause-prepared c =
    c.lift.ensures.prepared c.args.flight.steps (done_ok c.prepare_route_again.result _ c.prepare_route_again.ensures.room (sym c.if-is_err.ensures.value))

pub replace-requires-clause-feasible : goal.replace-requires-clause-feasible
replace-requires-clause-feasible c x lifted =
    let airport = c.self.inside.airport in
    let another : IsOnAnother airport c.self.inside.ledger.state c.args.flight = subst (λ (s : EngineState). IsOnAnother s.airport s.state c.args.flight) (sym c.self.view_is) c.requires.another in
    let same = c.lift.ensures.state ∙ c.prepare_route_again.ensures.state in
    let old : another.old ≡ x = cc (lifted-old airport c.self.inside.ledger.state c.args.flight another c.lift.new.self c.lift.ensures.lifted same, lifted) in
    subst (λ (f : Flight). IsFeasibleWalk (conditions_of airport c.lift.new.self.state f) c.args.flight.steps) old
    (subst (λ (s : State). IsFeasibleWalk (conditions_of airport s another.old) c.args.flight.steps) (sym same)
    (another-feasible airport c.self.inside.ledger.state c.args.flight another))

pub invariant_of-self-2 : goal.invariant_of-self-2
invariant_of-self-2 c =
    let airport = c.self.inside.airport in
    let state = c.self.inside.ledger.state in
    let another : IsOnAnother airport state c.args.flight = subst (λ (s : EngineState). IsOnAnother s.airport s.state c.args.flight) (sym c.self.view_is) c.requires.another in
    let same = c.lift.ensures.state ∙ c.prepare_route_again.ensures.state in
    let after : c.replace.new.self.state ≡ with_route another.old c.args.flight.request c.args.flight.steps state =
    (rw (lifted-old airport state c.args.flight another c.lift.new.self c.lift.ensures.lifted same) at c.replace.ensures.state)
    ∙ ap (with_route another.old c.args.flight.request c.args.flight.steps) same in (
      subst (λ (s : State). IsSound airport s) (sym after) (another-sound airport state c.args.flight another c.self.invariant.0),
      c.replace.ensures.fits,
      subst (λ (s : State). HaveNames s) (sym after) (another-names airport state c.args.flight another c.self.invariant.2),
      c.replace.ensures.unlifted,
    )

pub returns : goal.returns
returns c =
    let airport = c.self.inside.airport in
    let state = c.self.inside.ledger.state in
    let flight = c.args.flight in
    let another : IsOnAnother airport state flight = subst (λ (s : EngineState). IsOnAnother s.airport s.state flight) (sym c.self.view_is) c.requires.another in
    let same = c.lift.ensures.state ∙ c.prepare_route_again.ensures.state in
    let after : c.replace.new.self.state ≡ with_flight flight (without flight.name state) =
    (rw (lifted-old airport state flight another c.lift.new.self c.lift.ensures.lifted same) at c.replace.ensures.state)
    ∙ ap (with_route another.old flight.request flight.steps) same ∙ another-after airport state flight another in
    let text = done_ok c.prepare_route_again.result _ c.prepare_route_again.ensures.text (sym c.if-is_err.ensures.value) ∙
    ap (λ labels. block_text airport (Route flight.name (second_of flight.request flight.steps) flight.steps labels)) c.as_slice-labels.ensures in
    subst
    (λ (s : EngineState). IsToldOrMemory (record { block = Route flight.name (second_of flight.request flight.steps) flight.steps c.args.labels.now; after = with_flight flight (without flight.name s.state) }) s
    (record { airport = airport; state = c.replace.new.self.state; reply = c.prepare_route_again.new.reply }))
    c.self.view_is (inl (λ i. record { airport = airport; state = after i; reply = text i }))
