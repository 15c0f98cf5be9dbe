use Rattle.std.proofs.Common.{◌∙◌, ◌<◌, sym, ap, subst}
use Rattle.taxi_base.specs.Walks.{IsFeasibleWalk, Meets}
use Rattle.taxi_base.specs.State.{State, holder_count, with_flight, IsSound}
use Rattle.taxi_base.specs.Faults.{conditions_in}
use Rattle.taxi_base.proofs.StateLaws.{IsSound-with_flight}
use Rattle.taxi_base.proofs.WalkLaws.{Meets-IsFeasibleWalk}
use Rattle.replies.specs.Replies.{HaveNames}
use Rattle.replies.proofs.HolderNames.{with_flight-names}
use Rattle.taxi_engine.specs.Engine.{EngineState}
use Rattle.taxi_engine.specs.Routed.{IsNew}
use Rattle.taxi_engine.proofs.engine.Engine.take_route.Goals as goal

pub prepare_route-requires-clause-walk : goal.prepare_route-requires-clause-walk
prepare_route-requires-clause-walk c = record {
  conditions = conditions_in c.args.self.now.airport c.args.flight.class c.args.self.now.state;
  here = sym (ap (λ (s : EngineState). s.airport) c.self.view_is);
  walk = Meets-IsFeasibleWalk _ c.args.flight.request c.args.flight.steps c.requires.met;
}

pub prepare_route-requires-clause-not_full : goal.prepare_route-requires-clause-not_full
prepare_route-requires-clause-not_full c = subst (λ (s : EngineState). holder_count s.state < 4096) (sym c.self.view_is) c.requires.new.few

pub commit-requires-clause-feasible : goal.commit-requires-clause-feasible
commit-requires-clause-feasible c =
    subst (λ (s : State). IsFeasibleWalk (conditions_in c.self.inside.airport c.args.flight.class s) c.args.flight.steps) (sym c.prepare_route.ensures.state)
    (subst (λ (s : EngineState). IsFeasibleWalk (conditions_in s.airport c.args.flight.class s.state) c.args.flight.steps) (sym c.self.view_is)
    (Meets-IsFeasibleWalk _ c.args.flight.request c.args.flight.steps c.requires.met))

pub invariant_of-self-2 : goal.invariant_of-self-2
invariant_of-self-2 c =
    let airport = c.self.inside.airport in
    let state = c.self.inside.ledger.state in
    let flight = c.args.flight in
    let new : IsNew state flight.name = subst (λ (s : EngineState). IsNew s.state flight.name) (sym c.self.view_is) c.requires.new in
    let met : Meets (conditions_in airport flight.class state) flight.request flight.steps =
    subst (λ (s : EngineState). Meets (conditions_in s.airport flight.class s.state) flight.request flight.steps) (sym c.self.view_is) c.requires.met in
    let after = sym (c.commit.ensures.state ∙ ap (with_flight flight) c.prepare_route.ensures.state) in (
      subst (IsSound airport) after (IsSound-with_flight airport flight state c.self.invariant.0 new.few new.absent met),
      c.commit.ensures.fits,
      subst HaveNames after (with_flight-names flight state c.requires.name c.self.invariant.2),
      c.commit.ensures.unlifted,
    )
