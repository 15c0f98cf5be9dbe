use Rattle.std.proofs.Common.{◌≡◌, ◌∙◌, true, false, Some, None, sym, subst, inl}
use Rattle.taxi_base.specs.declared.answers.Refusal.TheVariants as refusal
use Rattle.taxi_base.specs.Airport.{node_named, is_stand, is_of_kind}
use Rattle.taxi_base.proofs.AirportLaws.{node_named-exists}
use Rattle.taxi_text.specs.declared.command.Command.TheVariants as command
use Rattle.replies.specs.Replies.{refused}
use Rattle.taxi_engine.specs.Engine.{EngineState}
use Rattle.taxi_engine.proofs.DueLaws.{refusal-due}
use Rattle.taxi_engine.proofs.ReroutedDue.{divert-done, divert-unknown, divert-no_stand}
use Rattle.taxi_engine.proofs.engine.Engine.divert.Goals as goal

pub returns-in_default : goal.returns-in_default
returns-in_default c =
    let old = c.args.self.now in
    let asks = command.Divert c.args.flight.now c.args.time c.args.node.now in
    let unknown : node_named old.airport c.args.node.now ≡ None =
    subst (λ (s : EngineState). node_named s.airport c.args.node.now ≡ None) c.self.view_is (sym c.node_named.ensures ∙ c.in_default.is) in
    inl (record {
      reply = refused old.state refusal.UnknownNode;
      due = refusal-due old.airport old.state asks refusal.UnknownNode (divert-unknown old.airport old.state c.args.flight.now c.args.time c.args.node.now unknown);
      done = c.refuse.ensures;
    })

pub is_stand-requires : goal.is_stand-requires
is_stand-requires c = node_named-exists c.self.inside.airport c.args.node.now c.in-Some.node (sym c.node_named.ensures ∙ c.in-Some.is)

pub returns-then-not-is_stand : goal.returns-then-not-is_stand
returns-then-not-is_stand c =
    let old = c.args.self.now in
    let asks = command.Divert c.args.flight.now c.args.time c.args.node.now in
    let known : node_named old.airport c.args.node.now ≡ Some c.in-Some.node =
    subst (λ (s : EngineState). node_named s.airport c.args.node.now ≡ Some c.in-Some.node) c.self.view_is (sym c.node_named.ensures ∙ c.in-Some.is) in
    let no_stand : is_of_kind is_stand old.airport c.in-Some.node ≡ false =
    subst (λ (s : EngineState). is_of_kind is_stand s.airport c.in-Some.node ≡ false) c.self.view_is (sym c.is_stand.ensures ∙ c.if-not-is_stand.true) in
    inl (record {
      reply = refused old.state refusal.WrongKind;
      due = refusal-due old.airport old.state asks refusal.WrongKind
          (divert-no_stand old.airport old.state c.args.flight.now c.args.time c.args.node.now c.in-Some.node known no_stand);
      done = c.refuse-then-not-is_stand.ensures;
    })

pub returns : goal.returns
returns c =
    let old = c.args.self.now in
    let known : node_named old.airport c.args.node.now ≡ Some c.in-Some.node =
    subst (λ (s : EngineState). node_named s.airport c.args.node.now ≡ Some c.in-Some.node) c.self.view_is (sym c.node_named.ensures ∙ c.in-Some.is) in
    let stand : is_of_kind is_stand old.airport c.in-Some.node ≡ true =
    subst (λ (s : EngineState). is_of_kind is_stand s.airport c.in-Some.node ≡ true) c.self.view_is (sym c.is_stand.ensures ∙ c.if-not-is_stand.false) in
    divert-done old c.route_again.new.self c.args.flight.now c.args.time c.args.node.now c.in-Some.node known stand c.route_again.ensures
