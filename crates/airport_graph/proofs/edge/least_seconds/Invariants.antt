use Rattle.std.proofs.Common.{◌≡◌, take, map, None}
use Rattle.std.specs.Prelude.{slice_index_or}
use Rattle.taxi_base.specs.Airport.{times_of}
use Rattle.airport_graph.specs.Graph.{least}
use Rattle.airport_graph.proofs.edge.least_seconds.Given as goal

abbrev pub invariant-loop-number : goal.invariant-loop-number
invariant-loop-number l = l.least ≡ least (map (λ row. slice_index_or row l.segment.0 None) (take l.number (times_of l.airport)))
