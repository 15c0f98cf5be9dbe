use Rattle.std.proofs.Common.{◌≡◌}
use Rattle.std.specs.Prelude.{flat_map}
use Rattle.airport_text.specs.Canonical.{numbers_below}
use Rattle.traffic_generator.specs.Draws.{state_after}
use Rattle.traffic_generator.specs.Grid.{time_records}
use Rattle.traffic_generator.specs.Texts.{and_lines}
use Rattle.traffic_generator.proofs.airport.push_times.Given as goal

abbrev pub invariant-loop-segment : goal.invariant-loop-segment
invariant-loop-segment l = record {
  drawn : l.draws.state ≡ state_after l.number l.segment;
  written : l.text.items ≡ and_lines 44 l.fn.text.items (flat_map (time_records l.number l.side) (numbers_below l.segment));
}
