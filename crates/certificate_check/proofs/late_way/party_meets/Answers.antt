use Rattle.std.proofs.Common.{◌∙◌}
use Rattle.taxi_base.specs.State.{party_hold}
use Rattle.taxi_base.specs.Late.{prolonged_hold}
use Rattle.certificate_check.specs.Late.{delay_in}
use Rattle.certificate_check.proofs.LateWay.{one-meets}
use Rattle.certificate_check.proofs.late_way.party_meets.Goals as goal

pub returns : goal.returns
returns c =
    c.is_some.ensures
    ∙ one-meets c.args.airport.now (prolonged_hold c.args.airport.now (delay_in c.args.late.now)) (party_hold c.args.party.now) c.party_second.result c.party_second.ensures
