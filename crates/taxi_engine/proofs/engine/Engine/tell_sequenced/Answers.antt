use Rattle.std.proofs.Common.{◌∙◌, ◌+◌, ◌≤◌, length, sym, subst, inl, inr}
use Rattle.taxi_base.specs.declared.answers.Refusal.TheVariants as refusal
use Rattle.taxi_base.specs.State.{State, holder_count, IsSound}
use Rattle.replies.specs.Replies.{refused, HaveNames}
use Rattle.sequence_exchange.specs.Serving.{AreNew}
use Rattle.sequence_exchange.proofs.ServingLaws.{not-err, is-err}
use Rattle.sequence_exchange.proofs.SoundLaws.{sequenced-sound, sequenced-names}
use Rattle.taxi_engine.specs.Engine.{EngineState}
use Rattle.taxi_engine.specs.Done.{IsDone}
use Rattle.taxi_engine.specs.Batched.{IsSequencedTold}
use Rattle.taxi_engine.proofs.engine.Engine.tell_sequenced.Goals as goal

pub invariant_of-self-else-is_err : goal.invariant_of-self-else-is_err
invariant_of-self-else-is_err c =
    let airport = c.self.inside.airport in
    let state = c.self.inside.ledger.state in
    let wishes = c.args.wishes.now in
    let after = c.print_sequenced.new.ledger.state in
    let told = not-err c.print_sequenced.result (sym c.is_err.ensures.value ∙ c.if-is_err.false) c.print_sequenced.ensures.ok in
    let new : AreNew state wishes = subst (λ (s : EngineState). AreNew s.state wishes) (sym c.self.view_is) c.requires.new in
    let few : holder_count state + length wishes ≤ 4096 = subst (λ (s : EngineState). holder_count s.state + length wishes ≤ 4096) (sym c.self.view_is) c.requires.few in (
      sequenced-sound airport state wishes told.0 told.1 after told.2 c.self.invariant.0 new few,
      c.print_sequenced.ensures.fits,
      sequenced-names airport state wishes told.0 told.1 after told.2 c.self.invariant.2 c.requires.names,
      c.print_sequenced.ensures.unlifted,
    )

pub invariant_of-self : goal.invariant_of-self
invariant_of-self c =
    let same = is-err c.print_sequenced.result (sym c.is_err.ensures.value ∙ c.if-is_err.true) c.print_sequenced.ensures.err in (
      subst (λ (s : State). IsSound c.self.inside.airport s) (sym same) c.self.invariant.0,
      c.print_sequenced.ensures.fits,
      subst (λ (s : State). HaveNames s) (sym same) c.self.invariant.2,
      c.print_sequenced.ensures.unlifted,
    )

pub returns-then-is_err : goal.returns-then-is_err
returns-then-is_err c =
    let old : EngineState = record { airport = c.self.inside.airport; state = c.self.inside.ledger.state; reply = c.self.inside.reply } in
    let same = is-err c.print_sequenced.result (sym c.is_err.ensures.value ∙ c.if-is_err.true) c.print_sequenced.ensures.err in
    subst (λ (s : EngineState). IsSequencedTold c.args.wishes.now s c.refuse.new.self) c.self.view_is
    (inr (subst (λ (s : State). IsDone (refused s refusal.Memory) old c.refuse.new.self) same c.refuse.ensures))

pub returns-else-is_err : goal.returns-else-is_err
returns-else-is_err c =
    let airport = c.self.inside.airport in
    let after = c.print_sequenced.new.ledger.state in
    let told = not-err c.print_sequenced.result (sym c.is_err.ensures.value ∙ c.if-is_err.false) c.print_sequenced.ensures.ok in
    subst (λ (s : EngineState). IsSequencedTold c.args.wishes.now s (record { airport = airport; state = after; reply = c.print_sequenced.new.reply })) c.self.view_is
    (inl (record { total = told.0; entries = told.1; after = after; sequenced = told.2; done = λ i. record { airport = airport; state = after; reply = told.3 i } }))
