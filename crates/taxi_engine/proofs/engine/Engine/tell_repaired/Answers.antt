use Rattle.std.proofs.Common.{◌∙◌, sym, subst, inl, inr}
use Rattle.taxi_base.specs.declared.answers.Refusal.TheVariants as refusal
use Rattle.taxi_base.specs.State.{State, IsSound}
use Rattle.replies.specs.Replies.{refused, HaveNames}
use Rattle.sequence_exchange.proofs.ServingLaws.{not-err, is-err}
use Rattle.taxi_engine.specs.Engine.{EngineState}
use Rattle.taxi_engine.specs.Done.{IsDone}
use Rattle.taxi_engine.specs.Repaired.{IsRepairedTold}
use Rattle.taxi_engine.proofs.engine.Engine.tell_repaired.Goals as goal

pub invariant_of-self : goal.invariant_of-self
invariant_of-self c =
    let same = is-err c.print_repaired.result (sym c.is_err.ensures.value ∙ c.if-is_err.true) c.print_repaired.ensures.err in (
      subst (λ (s : State). IsSound c.self.inside.airport s) (sym same) c.self.invariant.0,
      c.print_repaired.ensures.fits,
      subst (λ (s : State). HaveNames s) (sym same) c.self.invariant.2,
      c.print_repaired.ensures.unlifted,
    )

pub invariant_of-self-else-is_err : goal.invariant_of-self-else-is_err
invariant_of-self-else-is_err c =
    let fine = sym c.is_err.ensures.value ∙ c.if-is_err.false in (
      not-err c.print_repaired.result fine c.print_repaired.ensures.sound,
      c.print_repaired.ensures.fits,
      not-err c.print_repaired.result fine c.print_repaired.ensures.named,
      c.print_repaired.ensures.unlifted,
    )

pub returns-then-is_err : goal.returns-then-is_err
returns-then-is_err c =
    let late = c.args.late.now in
    let old : EngineState = record { airport = c.self.inside.airport; state = c.self.inside.ledger.state; reply = c.self.inside.reply } in
    let same = is-err c.print_repaired.result (sym c.is_err.ensures.value ∙ c.if-is_err.true) c.print_repaired.ensures.err in
    subst (λ (s : EngineState). IsRepairedTold late.flight late.time late.until s c.refuse.new.self) c.self.view_is
    (inr (subst (λ (s : State). IsDone (refused s refusal.Memory) old c.refuse.new.self) same c.refuse.ensures))

pub returns-else-is_err : goal.returns-else-is_err
returns-else-is_err c =
    let late = c.args.late.now in
    let airport = c.self.inside.airport in
    let after = c.print_repaired.new.ledger.state in
    let told = not-err c.print_repaired.result (sym c.is_err.ensures.value ∙ c.if-is_err.false) c.print_repaired.ensures.told in
    subst (λ (s : EngineState). IsRepairedTold late.flight late.time late.until s (record { airport = airport; state = after; reply = c.print_repaired.new.reply })) c.self.view_is
    (inl (record { block = told.0; after = after; told = told.1; done = λ i. record { airport = airport; state = after; reply = told.2 i } }))
