use Rattle.std.proofs.Common.{◌≡◌, ◌∙◌, None, sym, subst, inl}
use Rattle.taxi_base.specs.declared.answers.Refusal.TheVariants as refusal
use Rattle.taxi_base.specs.Airport.{segment_named}
use Rattle.taxi_text.specs.declared.command.Command.TheVariants as asked
use Rattle.replies.specs.CarriedOut.{occupancy_reply}
use Rattle.replies.specs.Replies.{refused}
use Rattle.replies.proofs.WindowsTold.{segment_named-exists}
use Rattle.taxi_engine.specs.Engine.{EngineState}
use Rattle.taxi_engine.specs.Done.{IsDoneOrMemory}
use Rattle.command_refusals.proofs.CallLaws.{done_ok}
use Rattle.taxi_engine.proofs.DueLaws.{occupancy-due, occupancy-refused}
use Rattle.taxi_engine.proofs.engine.Engine.tell_occupancy.Goals as goal

pub print_occupancy-requires-clause-exists : goal.print_occupancy-requires-clause-exists
print_occupancy-requires-clause-exists c = segment_named-exists c.self.inside.airport c.args.segment.now c.in-Some.segment (sym c.segment_named.ensures ∙ c.in-Some.is)

pub returns-in_default : goal.returns-in_default
returns-in_default c =
    let unknown : segment_named c.args.self.now.airport c.args.segment.now ≡ None =
    subst (λ (s : EngineState). segment_named s.airport c.args.segment.now ≡ None) c.self.view_is (sym c.segment_named.ensures ∙ c.in_default.is) in
    inl (record {
      reply = refused c.args.self.now.state refusal.UnknownSegment;
      due = occupancy-refused c.args.self.now.airport c.args.self.now.state c.args.segment.now unknown;
      done = c.refuse.ensures;
    })

pub returns-else-is_err : goal.returns-else-is_err
returns-else-is_err c =
    let airport = c.self.inside.airport in
    let state = c.self.inside.ledger.state in
    let segment = c.in-Some.segment in
    let told = done_ok c.print_occupancy.result _ c.print_occupancy.ensures (sym c.is_err.ensures.value ∙ c.if-is_err.false) in
    subst (λ (s : EngineState). IsDoneOrMemory (asked.Occupancy c.args.segment.now) s (record { airport = airport; state = state; reply = c.print_occupancy.new.reply })) c.self.view_is
    (inl (record {
      reply = occupancy_reply state segment told.0;
      due = occupancy-due airport state c.args.segment.now segment told.0 (sym c.segment_named.ensures ∙ c.in-Some.is) told.1;
      done = λ i. record { airport = airport; state = state; reply = told.2 i };
    }))
