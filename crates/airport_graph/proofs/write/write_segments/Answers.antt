use Rattle.std.proofs.Common.{◌<◌, length, arith, ap}
use Rattle.std.proofs.lemmas.List.{length-map}
use Rattle.taxi_base.specs.Airport.{link_of}
use Rattle.airport_graph.proofs.Lines.{segment-more}
use Rattle.airport_graph.proofs.write.write_segments.Goals as goal

pub loop-number-preserved : goal.loop-number-preserved
loop-number-preserved c =
    let airport = c.args.airport.now in
    let low : c.loop-number.number < length airport.segments = omega (arith, ap (λ g. length g.links) c.graph.ensures, length-map airport.segments link_of) in
    segment-more airport c.loop-number.number _ _ _ low c.loop-number.invariant c.in_ok-write_segment.ensures
