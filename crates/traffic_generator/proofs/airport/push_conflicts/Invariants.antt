use Rattle.std.proofs.Common.{◌≡◌, ◌+◌, ◌-◌, ◌%◌, map}
use Rattle.std.specs.Prelude.{◌==◌, filter}
use Rattle.airport_text.specs.Canonical.{numbers_below}
use Rattle.traffic_generator.specs.Places.{place_at}
use Rattle.traffic_generator.specs.Grid.{conflict_record}
use Rattle.traffic_generator.specs.Texts.{and_lines}
use Rattle.traffic_generator.proofs.airport.push_conflicts.Given as goal

abbrev pub invariant-loop-number : goal.invariant-loop-number
invariant-loop-number l =
    l.text.items ≡ and_lines 44 l.fn.text.items (map conflict_record (filter (λ p. (p.row + p.column) % 5 == 0) (map (place_at (l.side - 1)) (numbers_below l.number))))
