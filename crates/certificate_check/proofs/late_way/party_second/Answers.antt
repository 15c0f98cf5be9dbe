use Rattle.std.proofs.Common.{◌<◌, length, sym, subst}
use Rattle.taxi_base.specs.declared.numbers.Segment.{Segment}
use Rattle.taxi_base.proofs.AirportLaws.{arc_exists-segment}
use Rattle.certificate_check.proofs.late_way.party_second.Goals as goal

pub common_second-requires : goal.common_second-requires
common_second-requires c =
    subst (λ (s : Segment). s.0 < length c.args.airport.now.segments) (sym c.segment-segment.ensures) (arc_exists-segment c.args.airport.now c.args.late.now.begun.arc c.requires)
