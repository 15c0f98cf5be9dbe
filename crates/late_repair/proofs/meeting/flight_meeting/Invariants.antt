use Rattle.std.proofs.Common.{take}
use Rattle.taxi_base.specs.Windows.{holds_of}
use Rattle.late_repair.specs.Repairing.{hold_seen, IsFirstCommonOf}
use Rattle.late_repair.proofs.meeting.flight_meeting.Given as goal

-- the first second that the steps so far have
abbrev pub invariant-loop-step : goal.invariant-loop-step
invariant-loop-step l = IsFirstCommonOf l.airport (hold_seen l.hold) (holds_of l.horizon l.clearance (take l.step-index l.step-items)) l.first
