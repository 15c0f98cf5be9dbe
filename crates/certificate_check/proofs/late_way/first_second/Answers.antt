use Rattle.std.proofs.Common.{◌<◌, length, sym, subst}
use Rattle.taxi_base.specs.declared.numbers.Segment.{Segment}
use Rattle.taxi_base.specs.Late.{prolonged_hold}
use Rattle.taxi_base.proofs.AirportLaws.{arc_exists-segment}
use Rattle.held_spans.proofs.LoopLaws.{no_step}
use Rattle.certificate_check.specs.Late.{delay_in}
use Rattle.certificate_check.proofs.LateWay.{first-push}
use Rattle.certificate_check.proofs.late_way.first_second.Goals as goal

pub common_second-common-requires : goal.common_second-common-requires
common_second-common-requires c =
    subst (λ (s : Segment). s.0 < length c.args.airport.now.segments) (sym c.segment-segment.ensures) (arc_exists-segment c.args.airport.now c.args.late.now.begun.arc c.requires)

pub loop-step-preserved : goal.loop-step-preserved
loop-step-preserved c =
    let airport = c.args.airport.now in
    rw c.sooner-first.ensures
    (first-push airport (prolonged_hold airport (delay_in c.args.late.now)) c.args.clearance c.horizon.result c.args.steps.now c.loop-step.step-index no_step c.horizon.ensures.horizon c.loop-step-test.true
    c.segment-segment.result c.segment.result c.prolonged_span-prolonged.result c.held-held.result c.segment-segment.ensures c.prolonged_span-prolonged.ensures c.segment.ensures c.held-held.ensures
    c.loop-step.first c.common_second-common.result c.loop-step.invariant c.common_second-common.ensures)
