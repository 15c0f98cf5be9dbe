use Rattle.std.proofs.Common.{All, take, length}
use Rattle.taxi_base.specs.Walks.{conditions_among, free_among}
use Rattle.walk_labels.specs.Places.{IsPlace, place_of}
use Rattle.check_rows.specs.Known.{AreKnown}
use Rattle.check_rows.proofs.places.are_at_places.Given as goal

abbrev pub invariant-loop-row : goal.invariant-loop-row
invariant-loop-row g l = record {
  known : AreKnown (length l.airport.segments) (free_among l.airport (g.H.HoldsOf.held l.holds)) l.known;
  there : All (λ row. IsPlace (conditions_among l.airport l.class (g.H.HoldsOf.held l.holds)) (place_of row)) (take l.row-index l.rows);
}
