use Rattle.std.proofs.Common.{◌≡◌, map}
use Rattle.airport_text.specs.Canonical.{numbers_below}
use Rattle.traffic_generator.specs.Grid.{segment_record, way_at}
use Rattle.traffic_generator.specs.Texts.{and_lines}
use Rattle.traffic_generator.proofs.airport.push_segments.Given as goal

abbrev pub invariant-loop-segment : goal.invariant-loop-segment
invariant-loop-segment l = l.text.items ≡ and_lines 44 l.fn.text.items (map (λ s. segment_record (way_at l.side s)) (numbers_below l.segment))
