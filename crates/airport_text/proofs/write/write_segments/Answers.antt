use Rattle.std.proofs.Common.{◌<◌, length, arith, sym, ap}
use Rattle.std.proofs.lemmas.List.{length-map}
use Rattle.taxi_base.specs.Airport.{link_of}
use Rattle.airport_text.specs.Canonical.{segment_record}
use Rattle.airport_text.proofs.RecordLaws.{and_records-none, item-more}
use Rattle.airport_text.proofs.write.write_segments.Goals as goal

pub loop-number-init : goal.loop-number-init
loop-number-init c = sym (and_records-none _)

pub loop-number-preserved : goal.loop-number-preserved
loop-number-preserved c =
    let airport = c.args.airport.now in
    let low : c.loop-number.number < length airport.segments = omega (arith, ap (λ g. length g.links) c.graph.ensures, length-map airport.segments link_of) in
    item-more (segment_record airport) airport.segments c.loop-number.number _ _ _ low c.loop-number.invariant c.in_ok-write_segment.ensures
