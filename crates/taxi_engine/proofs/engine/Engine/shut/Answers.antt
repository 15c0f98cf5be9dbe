use Rattle.std.proofs.Common.{◌≡◌, ◌∙◌, sym, ap, subst, inl, inr}
use Rattle.taxi_base.specs.State.{State, with_party, IsSound}
use Rattle.taxi_base.proofs.StateLaws.{IsSound-with_party}
use Rattle.taxi_text.specs.declared.command.Command.TheVariants.{Work}
use Rattle.replies.specs.declared.block.Block.TheVariants.{Refused, Filed}
use Rattle.replies.specs.Texts.{block_text}
use Rattle.replies.specs.Replies.{refused, HaveNames}
use Rattle.replies.proofs.HolderNames.{with_party-names}
use Rattle.taxi_engine.specs.Engine.{EngineState}
use Rattle.taxi_engine.specs.Done.{IsDone, IsDoneOrMemory}
use Rattle.taxi_engine.proofs.DueLaws.{refusal-due}
use Rattle.taxi_engine.proofs.engine.Engine.shut.Goals as goal

pub invariant_of-self : goal.invariant_of-self
invariant_of-self c =
    let airport = c.self.inside.airport in
    let state = c.self.inside.ledger.state in
    let party = c.in-Ok.party in
    let accepted = c.in-Ok.ensures.ok in
    let after = sym (c.place.ensures.state ∙ ap (with_party party) c.in-Ok.ensures.state) in (
      subst (IsSound airport) after (IsSound-with_party airport party state c.self.invariant.0 accepted.few accepted.absent accepted.feasible),
      c.place.ensures.fits,
      subst HaveNames after (with_party-names party state accepted.name c.self.invariant.2),
      c.place.ensures.unlifted,
    )

pub returns-in-Ok : goal.returns-in-Ok
returns-in-Ok c =
    let airport = c.self.inside.airport in
    let state = c.self.inside.ledger.state in
    let party = c.in-Ok.party in
    let text = c.set_short.ensures ∙ c.shut_text.ensures _ in
    let after : c.place.new.self.state ≡ with_party party state = c.place.ensures.state ∙ ap (with_party party) c.in-Ok.ensures.state in
    subst
    (λ (s : EngineState). IsDoneOrMemory (Work c.args.shut.now) s (record { airport = airport; state = c.place.new.self.state; reply = c.set_short.new.self }))
    c.self.view_is
    (inl (record {
      reply = record { block = Filed party.name party.from party.until; after = with_party party state };
      due = c.in-Ok.ensures.ok.due;
      done = λ i. record { airport = airport; state = after i; reply = text i };
    }))

pub returns-in-Err : goal.returns-in-Err
returns-in-Err c =
    let airport = c.self.inside.airport in
    let state = c.self.inside.ledger.state in
    let why = c.in-Err.why in
    let old : EngineState = record { airport = airport; state = state; reply = c.self.inside.reply } in
    let done : IsDone (refused state why) old c.refuse.new.self =
    c.refuse.ensures ∙ ap (λ (after : State). record { airport = airport; state = after; reply = block_text airport (Refused why) }) c.in-Err.ensures.state in
    subst (λ (s : EngineState). IsDoneOrMemory (Work c.args.shut.now) s c.refuse.new.self) c.self.view_is
    (elim c.in-Err.ensures.err [
      | inl memory ↦ inr (memory.1, subst (λ r. IsDone (refused state r) old c.refuse.new.self) memory.0 done)
      | inr due ↦ inl (record { reply = refused state why; due = refusal-due airport state (Work c.args.shut.now) why due; done = done })
    ])
