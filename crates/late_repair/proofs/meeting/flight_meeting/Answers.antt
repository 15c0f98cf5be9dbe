use Rattle.std.proofs.Common.{◌≡◌, ◌+◌, suc, arith}
use Rattle.late_repair.specs.Repairing.{hold_seen}
use Rattle.late_repair.proofs.MeetingLaws.{common-next}
use Rattle.late_repair.proofs.meeting.flight_meeting.Goals as goal

pub loop-step-preserved : goal.loop-step-preserved
loop-step-preserved c =
    let next : c.loop-step.step-index + 1 ≡ suc c.loop-step.step-index = omega arith in
    rw next (common-next c.args.airport.now (hold_seen c.hold-hold.result) c.horizon-horizon.result c.clearance-clearance.result c.as_slice-step-items.result.now c.loop-step.step-index _
    c.loop-step.first c.first_common.result c.earlier-first.result c.loop-step-test.true c.loop-step.invariant (rw (c.segment.ensures, c.held-span.ensures) at c.first_common.ensures) c.earlier-first.ensures)
