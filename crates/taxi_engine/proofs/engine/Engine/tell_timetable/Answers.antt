use Rattle.std.proofs.Common.{◌∙◌, refl, sym, subst, inl}
use Rattle.taxi_text.specs.declared.command.Command.TheVariants as asked
use Rattle.replies.specs.CarriedOut.{timetable_reply}
use Rattle.taxi_engine.specs.Engine.{EngineState}
use Rattle.taxi_engine.specs.Done.{IsDoneOrMemory}
use Rattle.command_refusals.proofs.CallLaws.{done_ok}
use Rattle.taxi_engine.proofs.engine.Engine.tell_timetable.Goals as goal

pub returns-else-is_err : goal.returns-else-is_err
returns-else-is_err c =
    let airport = c.self.inside.airport in
    let state = c.self.inside.ledger.state in
    let text = done_ok c.print_timetable.result _ c.print_timetable.ensures (sym c.is_err.ensures.value ∙ c.if-is_err.false) in
    subst (λ (s : EngineState). IsDoneOrMemory asked.Timetable s (record { airport = airport; state = state; reply = c.print_timetable.new.reply })) c.self.view_is
    (inl (record { reply = timetable_reply state; due = (refl, refl); done = λ i. record { airport = airport; state = state; reply = text i } }))
