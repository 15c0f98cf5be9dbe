use Rattle.std.proofs.Common.{◌≡◌, [], map}
use Rattle.airport_text.specs.Canonical.{numbers_below}
use Rattle.traffic_generator.specs.Draws.{state_after}
use Rattle.traffic_generator.specs.Texts.{and_lines}
use Rattle.traffic_generator.specs.Flights.{draws_before, words_of_flight}
use Rattle.traffic_generator.proofs.commands.generate_commands.Given as goal

abbrev pub invariant-loop-flight : goal.invariant-loop-flight
invariant-loop-flight l = record {
  drawn : l.draws.state ≡ state_after l.number (draws_before l.side l.flight);
  written : l.text.items ≡ and_lines 32 [] (map (words_of_flight l.number l.side) (numbers_below l.flight));
}
