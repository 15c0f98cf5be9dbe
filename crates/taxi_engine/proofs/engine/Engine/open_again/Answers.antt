use Rattle.std.proofs.Common.{◌≡◌, ◌∙◌, true, false, not, is_some, sym, ap, subst}
use Rattle.taxi_base.specs.declared.answers.Refusal.TheVariants as refusal
use Rattle.taxi_base.specs.State.{IsSound}
use Rattle.taxi_base.proofs.StateLaws.{IsSound-without}
use Rattle.taxi_text.specs.declared.command.Command.TheVariants.{WorkDone}
use Rattle.replies.specs.Refusals.{is_at_work}
use Rattle.replies.specs.CarriedOut.{opened_reply}
use Rattle.replies.specs.Replies.{refused, HaveNames}
use Rattle.replies.proofs.FlightLaws.{without-party}
use Rattle.replies.proofs.HolderNames.{without-names}
use Rattle.taxi_engine.specs.Engine.{EngineState}
use Rattle.taxi_engine.specs.Done.{IsDoneAsDue}
use Rattle.taxi_engine.proofs.DueLaws.{work_done-due, work_done-refused}
use Rattle.taxi_engine.proofs.TakenOut.{removed-state}
use Rattle.taxi_engine.proofs.engine.Engine.open_again.Goals as goal

pub invariant_of-self : goal.invariant_of-self
invariant_of-self c =
    let there : is_at_work c.args.name.now c.self.inside.ledger.state ≡ true = ap is_some (sym c.party.ensures) ∙ c.is_none.ensures ∙ ap not c.if-is_none.false in
    let after = removed-state c.args.name.now c.self.inside.ledger c.remove.new.self c.remove.result c.remove.ensures.party c.remove.ensures.state there in (
      subst (IsSound c.self.inside.airport) (sym after) (IsSound-without c.self.inside.airport c.args.name.now c.self.inside.ledger.state c.self.invariant.0),
      c.remove.ensures.fits,
      subst HaveNames (sym after) (without-names c.args.name.now c.self.inside.ledger.state c.self.invariant.2),
      c.remove.ensures.unlifted,
    )

pub returns-then-is_none : goal.returns-then-is_none
returns-then-is_none c =
    let absent : is_at_work c.args.name.now c.self.inside.ledger.state ≡ false = ap is_some (sym c.party.ensures) ∙ c.is_none.ensures ∙ ap not c.if-is_none.true in
    record {
      reply = refused c.args.self.now.state refusal.NotInForce;
      due = work_done-refused c.args.self.now.airport c.args.self.now.state c.args.name.now (subst (λ (s : EngineState). is_at_work c.args.name.now s.state ≡ false) c.self.view_is absent);
      done = c.refuse.ensures;
    }

pub returns : goal.returns
returns c =
    let airport = c.self.inside.airport in
    let state = c.self.inside.ledger.state in
    let name = c.args.name.now in
    let there : is_at_work name state ≡ true = ap is_some (sym c.party.ensures) ∙ c.is_none.ensures ∙ ap not c.if-is_none.false in
    let text = c.set_short.ensures ∙ c.cancelled_text.ensures _ in
    let after = removed-state name c.self.inside.ledger c.remove.new.self c.remove.result c.remove.ensures.party c.remove.ensures.state there
    ∙ sym (without-party airport name state c.self.invariant.0.feasible there) in
    subst (λ (s : EngineState). IsDoneAsDue (WorkDone name) s (record { airport = airport; state = c.remove.new.self.state; reply = c.set_short.new.self })) c.self.view_is
    (record { reply = opened_reply state name; due = work_done-due airport state name there; done = λ i. record { airport = airport; state = after i; reply = text i } })
