use Rattle.std.proofs.Common.{◌≡◌, ◌≤◌, ◌++◌, ℕ, List, length}
use Rattle.taxi_io.specs.Written.{Grew, ArePieces}
use Rattle.taxi_io.proofs.writing.write_all.Given as goal

-- what was written and what is left make the piece
abbrev pub invariant-loop-rest : goal.invariant-loop-rest
invariant-loop-rest g l =
    let k = g.K.Sink in
    (done : List ℕ) × (pieces : List (List ℕ)) × record {
      whole : done ++ l.rest ≡ l.fn.piece;
      grew : Grew (k.written l.fn.sink) (k.written l.sink) done;
      handed : (k.written l.sink).pieces ≡ (k.written l.fn.sink).pieces ++ pieces;
      are : ArePieces l.fn.piece l.rest pieces;
      later : k.faults l.fn.sink ≤ k.faults l.sink;
    }

abbrev pub decreases-loop-rest : goal.decreases-loop-rest
decreases-loop-rest g l = length l.rest
