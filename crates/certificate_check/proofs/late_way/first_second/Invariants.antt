use Rattle.std.proofs.Common.{take}
use Rattle.taxi_base.specs.Windows.{holds_of}
use Rattle.taxi_base.specs.Late.{prolonged_hold}
use Rattle.certificate_check.specs.Late.{delay_in, IsFirstIn}
use Rattle.certificate_check.proofs.late_way.first_second.Given as goal

abbrev pub invariant-loop-step : goal.invariant-loop-step
invariant-loop-step l = IsFirstIn l.airport (prolonged_hold l.airport (delay_in l.late)) (holds_of l.airport.horizon l.clearance (take l.step-index l.steps)) l.first
