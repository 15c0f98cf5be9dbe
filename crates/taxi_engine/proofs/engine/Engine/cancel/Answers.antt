use Rattle.std.proofs.Common.{◌≡◌, ◌∙◌, true, false, not, is_some, None, sym, ap, subst}
use Rattle.taxi_base.specs.declared.answers.Refusal.TheVariants as refusal
use Rattle.taxi_base.specs.State.{IsSound}
use Rattle.taxi_base.proofs.StateLaws.{IsSound-without}
use Rattle.taxi_text.specs.declared.command.Command.TheVariants.{Cancel}
use Rattle.replies.specs.Refusals.{is_in_force}
use Rattle.replies.specs.CarriedOut.{cancelled_reply}
use Rattle.replies.specs.Replies.{refused, HaveNames}
use Rattle.replies.proofs.HolderNames.{without-names}
use Rattle.commitments.specs.Book.{Book, Fits}
use Rattle.taxi_engine.specs.Engine.{EngineState}
use Rattle.taxi_engine.specs.Done.{IsDone, IsDoneAsDue}
use Rattle.taxi_engine.proofs.DueLaws.{cancel-due, cancel-refused}
use Rattle.taxi_engine.proofs.TakenOut.{cancelled-state, not-done}
use Rattle.taxi_engine.proofs.engine.Engine.cancel.Goals as goal

pub invariant_of-self : goal.invariant_of-self
invariant_of-self c =
    let absent : is_in_force c.args.flight.now c.self.inside.ledger.state ≡ false = ap is_some (sym c.cancel.ensures.flight) ∙ c.is_none.ensures ∙ ap not c.if-is_none.true in
    let same : c.cancel.new.self ≡ c.self.inside.ledger = not-done c.cancel.result _ _ c.cancel.ensures.flight c.cancel.ensures.unchanged absent in
    subst (λ (b : Book). IsSound c.self.inside.airport b.state × Fits c.self.inside.airport b × HaveNames b.state × (b.lifted ≡ None)) (sym same) c.self.invariant

pub returns-then-is_none : goal.returns-then-is_none
returns-then-is_none c =
    let absent : is_in_force c.args.flight.now c.self.inside.ledger.state ≡ false = ap is_some (sym c.cancel.ensures.flight) ∙ c.is_none.ensures ∙ ap not c.if-is_none.true in
    let same : c.cancel.new.self ≡ c.self.inside.ledger = not-done c.cancel.result _ _ c.cancel.ensures.flight c.cancel.ensures.unchanged absent in
    let before : EngineState = record { airport = c.self.inside.airport; state = c.self.inside.ledger.state; reply = c.self.inside.reply } in
    subst (λ (s : EngineState). IsDoneAsDue (Cancel c.args.flight.now) s c.refuse.new.self) c.self.view_is
    (record {
      reply = refused before.state refusal.NotInForce;
      due = cancel-refused before.airport before.state c.args.flight.now absent;
      done = subst (λ (b : Book). IsDone (refused b.state refusal.NotInForce) (record before { state = b.state }) c.refuse.new.self) same c.refuse.ensures;
    })

pub invariant_of-self-2 : goal.invariant_of-self-2
invariant_of-self-2 c =
    let after = cancelled-state c.args.flight.now c.self.inside.ledger c.cancel.new.self c.cancel.result c.cancel.ensures.flight c.cancel.ensures.state
    (ap is_some (sym c.cancel.ensures.flight) ∙ c.is_none.ensures ∙ ap not c.if-is_none.false) in (
      subst (IsSound c.self.inside.airport) (sym after) (IsSound-without c.self.inside.airport c.args.flight.now c.self.inside.ledger.state c.self.invariant.0),
      c.cancel.ensures.fits,
      subst HaveNames (sym after) (without-names c.args.flight.now c.self.inside.ledger.state c.self.invariant.2),
      c.cancel.ensures.unlifted,
    )

pub returns : goal.returns
returns c =
    let airport = c.self.inside.airport in
    let state = c.self.inside.ledger.state in
    let name = c.args.flight.now in
    let there : is_in_force name state ≡ true = ap is_some (sym c.cancel.ensures.flight) ∙ c.is_none.ensures ∙ ap not c.if-is_none.false in
    let text = c.set_short.ensures ∙ c.cancelled_text.ensures _ in
    let after = cancelled-state name c.self.inside.ledger c.cancel.new.self c.cancel.result c.cancel.ensures.flight c.cancel.ensures.state there in
    subst (λ (s : EngineState). IsDoneAsDue (Cancel name) s (record { airport = airport; state = c.cancel.new.self.state; reply = c.set_short.new.self })) c.self.view_is
    (record { reply = cancelled_reply state name; due = cancel-due airport state name there; done = λ i. record { airport = airport; state = after i; reply = text i } })
