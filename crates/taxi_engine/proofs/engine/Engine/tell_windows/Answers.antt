use Rattle.std.proofs.Common.{◌≡◌, ◌∙◌, Some, None, refl, sym, subst, inl, inr}
use Rattle.taxi_base.specs.declared.answers.Refusal.TheVariants as refusal
use Rattle.taxi_base.specs.Airport.{segment_named}
use Rattle.taxi_text.specs.declared.command.Command.TheVariants as asked
use Rattle.replies.specs.CarriedOut.{windows_reply}
use Rattle.replies.specs.Replies.{refused}
use Rattle.taxi_engine.specs.Engine.{EngineState}
use Rattle.taxi_engine.specs.Done.{IsDoneOrMemory}
use Rattle.command_refusals.proofs.CallLaws.{done_ok}
use Rattle.taxi_engine.proofs.DueLaws.{windows-due, windows-refused}
use Rattle.replies.proofs.WindowsTold.{segment_named-exists}
use Rattle.taxi_engine.proofs.engine.Engine.tell_windows.Goals as goal

pub print_windows-requires-clause-exists : goal.print_windows-requires-clause-exists
print_windows-requires-clause-exists c = segment_named-exists c.self.inside.airport c.args.segment.now c.in-Some.segment (sym c.segment_named.ensures ∙ c.in-Some.is)

pub returns-in_default : goal.returns-in_default
returns-in_default c =
    let unknown : segment_named c.self.inside.airport c.args.segment.now ≡ None = sym c.segment_named.ensures ∙ c.in_default.is in
    inl (record {
      reply = refused c.args.self.now.state refusal.UnknownSegment;
      due = windows-refused c.args.self.now.airport c.args.self.now.state c.args.segment.now (subst (λ (s : EngineState). segment_named s.airport c.args.segment.now ≡ None) c.self.view_is unknown);
      done = c.refuse.ensures;
    })

pub returns-else-is_err : goal.returns-else-is_err
returns-else-is_err c =
    let airport = c.self.inside.airport in
    let state = c.self.inside.ledger.state in
    let segment = c.in-Some.segment in
    let text = done_ok c.print_windows.result _ c.print_windows.ensures (sym c.is_err.ensures.value ∙ c.if-is_err.false) in
    subst (λ (s : EngineState). IsDoneOrMemory (asked.Windows c.args.segment.now) s (record { airport = airport; state = state; reply = c.print_windows.new.reply })) c.self.view_is
    (inl (record {
      reply = windows_reply airport state segment;
      due = windows-due airport state c.args.segment.now segment (sym c.segment_named.ensures ∙ c.in-Some.is);
      done = λ i. record { airport = airport; state = state; reply = text i };
    }))

pub returns-then-is_err : goal.returns-then-is_err
returns-then-is_err c =
    let airport = c.self.inside.airport in
    let state = c.self.inside.ledger.state in
    let known : segment_named airport c.args.segment.now ≡ Some c.in-Some.segment = sym c.segment_named.ensures ∙ c.in-Some.is in
    subst (λ (s : EngineState). IsDoneOrMemory (asked.Windows c.args.segment.now) s c.refuse-then-is_err.new.self) c.self.view_is
    (inr (rw known refl, c.refuse-then-is_err.ensures))
