use Rattle.std.proofs.Common.{◌≡◌, ◌++◌, take}
use Rattle.airport_graph.specs.Graph.{segment_lines}
use Rattle.airport_graph.proofs.write.write_segments.Given as goal

abbrev pub invariant-loop-number : goal.invariant-loop-number
invariant-loop-number l = l.out.items ≡ l.initial.out.items ++ segment_lines l.airport 0 (take l.number l.airport.segments)
