use Rattle.std.proofs.Common.{◌∙◌}
use Rattle.taxi_base.specs.State.{flight_holds}
use Rattle.taxi_base.specs.Late.{prolonged_hold}
use Rattle.certificate_check.specs.Late.{delay_in}
use Rattle.certificate_check.proofs.LateWay.{some-meets}
use Rattle.certificate_check.proofs.late_way.flight_meets.Goals as goal

pub returns : goal.returns
returns c =
    c.is_some.ensures
    ∙ some-meets c.args.airport.now (prolonged_hold c.args.airport.now (delay_in c.args.late.now)) (flight_holds c.args.airport.now c.args.flight.now) c.flight_second.result c.flight_second.ensures
