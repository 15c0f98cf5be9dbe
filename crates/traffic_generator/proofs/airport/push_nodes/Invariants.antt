use Rattle.std.proofs.Common.{◌≡◌, map}
use Rattle.airport_text.specs.Canonical.{numbers_below}
use Rattle.traffic_generator.specs.Places.{place_at}
use Rattle.traffic_generator.specs.Grid.{node_record}
use Rattle.traffic_generator.specs.Texts.{and_lines}
use Rattle.traffic_generator.proofs.airport.push_nodes.Given as goal

abbrev pub invariant-loop-number : goal.invariant-loop-number
invariant-loop-number l = l.text.items ≡ and_lines 44 l.fn.text.items (map (λ k. node_record l.side (place_at l.side k)) (numbers_below l.number))
