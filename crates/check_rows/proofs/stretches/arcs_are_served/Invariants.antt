use Rattle.std.proofs.Common.{All, take, length}
use Rattle.taxi_base.specs.Walks.{conditions_among, free_among}
use Rattle.check_rows.specs.Known.{AreKnown}
use Rattle.table_rows.specs.HasRows.{HasEach}
use Rattle.table_rows.specs.Reached.{IsReachedAt}
use Rattle.table_rows.specs.Served.{AreServed}
use Rattle.check_rows.proofs.stretches.arcs_are_served.Given as goal

abbrev pub invariant-loop-arc : goal.invariant-loop-arc
invariant-loop-arc g l = record {
  known : AreKnown (length l.airport.segments) (free_among l.airport (g.H.HoldsOf.held l.holds)) l.known;
  served : AreServed l.reach.way (conditions_among l.airport l.class (g.H.HoldsOf.held l.holds)) l.table.bound l.table.rows.now l.served;
  closed : All (λ arc. HasEach l.reach.way (IsReachedAt (conditions_among l.airport l.class (g.H.HoldsOf.held l.holds)) l.reach arc) l.table.bound l.table.rows.now) (take l.arc-index l.arcs);
}
