use Rattle.std.proofs.Common.{All, take, length}
use Rattle.taxi_base.specs.Walks.{conditions_among, free_among}
use Rattle.check_rows.specs.Known.{AreKnown}
use Rattle.table_rows.specs.Served.{AreServed}
use Rattle.table_rows.specs.HasRows.{HasEach}
use Rattle.check_rows.specs.Rules.{ComesOf}
use Rattle.check_rows.proofs.steps.rows_are_served.Given as goal

abbrev pub invariant-loop-row : goal.invariant-loop-row
invariant-loop-row g l = record {
  known : AreKnown (length l.airport.segments) (free_among l.airport (g.H.HoldsOf.held l.holds)) l.known;
  served : AreServed l.way (conditions_among l.airport l.class (g.H.HoldsOf.held l.holds)) l.table.bound l.table.rows.now l.served;
  closed : All (λ row. HasEach l.way (ComesOf l.way (conditions_among l.airport l.class (g.H.HoldsOf.held l.holds)) row) l.table.bound l.table.rows.now) (take l.row-index l.table.rows.now);
}
