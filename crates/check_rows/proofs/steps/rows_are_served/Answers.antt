use Rattle.taxi_base.specs.Walks.{conditions_among}
use Rattle.table_rows.specs.HasRows.{HasEach}
use Rattle.check_rows.specs.Rules.{ComesOf}
use Rattle.check_rows.proofs.LoopLaws.{all-fails, all-holds, all-more, says-no, says-yes, no_row}
use Rattle.table_rows.proofs.EachLaws.{same-test}
use Rattle.check_rows.proofs.RuleLaws.{closed-by_rows}
use Rattle.check_rows.proofs.steps.rows_are_served.Goals as goal

pub returns-then-not-closed-clause-closed : goal.returns-then-not-closed-clause-closed
returns-then-not-closed-clause-closed g c =
    same-test
    (all-fails (λ row. HasEach c.args.way (ComesOf c.args.way (conditions_among c.args.airport.now c.args.class (g.H.HoldsOf.held c.args.holds.now)) row) c.args.table.now.bound c.args.table.now.rows.now) c.args.table.now.rows.now c.loop-row.row-index no_row c.loop-row-test.true
    (says-no _ c.if-not-closed.true c.in_ok-closed.ensures.closed))
    (closed-by_rows c.args.way (conditions_among c.args.airport.now c.args.class (g.H.HoldsOf.held c.args.holds.now)) c.args.table.now.bound c.args.table.now.rows.now)

pub loop-row-preserved : goal.loop-row-preserved
loop-row-preserved g c = record {
  known = c.labels_of_row_have_rows.ensures.known;
  served = c.labels_of_row_have_rows.ensures.served;
  closed =
      all-more (λ row. HasEach c.args.way (ComesOf c.args.way (conditions_among c.args.airport.now c.args.class (g.H.HoldsOf.held c.args.holds.now)) row) c.args.table.now.bound c.args.table.now.rows.now) c.args.table.now.rows.now c.loop-row.row-index no_row c.loop-row-test.true
      c.loop-row.invariant.closed (says-yes _ c.if-not-closed.false c.in_ok-closed.ensures.closed);
}

pub returns-clause-closed : goal.returns-clause-closed
returns-clause-closed g c =
    same-test
    (all-holds (λ row. HasEach c.args.way (ComesOf c.args.way (conditions_among c.args.airport.now c.args.class (g.H.HoldsOf.held c.args.holds.now)) row) c.args.table.now.bound c.args.table.now.rows.now) c.args.table.now.rows.now c.loop-row.row-index c.loop-row-test.false c.loop-row.invariant.closed)
    (closed-by_rows c.args.way (conditions_among c.args.airport.now c.args.class (g.H.HoldsOf.held c.args.holds.now)) c.args.table.now.bound c.args.table.now.rows.now)
