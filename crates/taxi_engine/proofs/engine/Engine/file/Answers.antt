use Rattle.std.proofs.Common.{◌≡◌, ◌∙◌, sym, subst, ap, inl, inr}
use Rattle.taxi_base.specs.Walks.{Meets, begin_of, end_of}
use Rattle.taxi_base.specs.State.{State, with_flight, IsSound}
use Rattle.taxi_base.specs.Faults.{conditions_in}
use Rattle.taxi_base.proofs.StateLaws.{IsSound-with_flight}
use Rattle.taxi_text.specs.declared.command.Command.TheVariants.{File}
use Rattle.replies.specs.declared.block.Block.TheVariants.{Refused, Filed}
use Rattle.replies.specs.Texts.{block_text}
use Rattle.replies.specs.Replies.{refused, HaveNames}
use Rattle.replies.proofs.HolderNames.{with_flight-names}
use Rattle.taxi_engine.specs.Engine.{EngineState}
use Rattle.taxi_engine.specs.Done.{IsDone, IsDoneOrMemory}
use Rattle.taxi_engine.proofs.DueLaws.{refusal-due}
use Rattle.taxi_engine.proofs.engine.Engine.file.Goals as goal

pub invariant_of-self : goal.invariant_of-self
invariant_of-self c =
    let airport = c.self.inside.airport in
    let state = c.self.inside.ledger.state in
    let flight = c.in-Ok.flight in
    let accepted = c.in-Ok.ensures.ok in (
      subst (IsSound airport) (sym (c.commit.ensures.state ∙ ap (with_flight flight) c.in-Ok.ensures.state))
          (IsSound-with_flight airport flight state c.self.invariant.0 accepted.few accepted.absent
          (subst (λ r. Meets (conditions_in airport flight.class state) r flight.steps) (sym accepted.request) accepted.feasible)),
      c.commit.ensures.fits,
      subst HaveNames (sym (c.commit.ensures.state ∙ ap (with_flight flight) c.in-Ok.ensures.state))
          (with_flight-names flight state accepted.name c.self.invariant.2),
      c.commit.ensures.unlifted,
    )

pub returns-in-Ok : goal.returns-in-Ok
returns-in-Ok c =
    let airport = c.self.inside.airport in
    let state = c.self.inside.ledger.state in
    let flight = c.in-Ok.flight in
    let text = c.set_short.ensures ∙ c.filed_text.ensures _ in
    let after : c.commit.new.self.state ≡ with_flight flight state = c.commit.ensures.state ∙ ap (with_flight flight) c.in-Ok.ensures.state in
    subst
    (λ (s : EngineState). IsDoneOrMemory (File c.args.filed.now) s (record { airport = airport; state = c.commit.new.self.state; reply = c.set_short.new.self }))
    c.self.view_is
    (inl (record {
      reply = record { block = Filed flight.name (begin_of flight.steps) (end_of flight.steps); after = with_flight flight state };
      due = c.in-Ok.ensures.ok.due;
      done = λ i. record { airport = airport; state = after i; reply = text i };
    }))

pub returns-in-Err : goal.returns-in-Err
returns-in-Err c =
    let airport = c.self.inside.airport in
    let state = c.self.inside.ledger.state in
    let why = c.in-Err.why in
    let old : EngineState = record { airport = airport; state = state; reply = c.self.inside.reply } in
    let done : IsDone (refused state why) old c.refuse.new.self =
    c.refuse.ensures ∙ ap (λ (after : State). record { airport = airport; state = after; reply = block_text airport (Refused why) }) c.in-Err.ensures.state in
    subst (λ (s : EngineState). IsDoneOrMemory (File c.args.filed.now) s c.refuse.new.self) c.self.view_is
    (elim c.in-Err.ensures.err [
      | inl memory ↦ inr (tt, subst (λ r. IsDone (refused state r) old c.refuse.new.self) memory done)
      | inr due ↦ inl (record { reply = refused state why; due = refusal-due airport state (File c.args.filed.now) why due; done = done })
    ])
