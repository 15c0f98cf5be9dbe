use Rattle.std.proofs.Common.{◌<◌, length, sym, subst}
use Rattle.taxi_base.specs.declared.numbers.Segment.{Segment}
use Rattle.reply_reasons.proofs.StepTold.{file-made, step-segment}
use Rattle.reply_reasons.proofs.taken.explain_step.Goals as goal

pub explain_taken-requires : goal.explain_taken-requires
explain_taken-requires c =
    let airport = c.args.airport.now in
    subst (λ (s : Segment). s.0 < length airport.segments) (sym c.segment.ensures)
    (step-segment airport c.args.filed.now c.args.fault.now.number c.in-Some-step_filed.step (file-made airport c.args.ledger.now.state c.args.filed.now c.args.fault.now c.requires) c.in-Some-step_filed.ensures)
