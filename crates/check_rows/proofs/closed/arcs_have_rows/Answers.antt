use Rattle.taxi_base.specs.declared.numbers.Arc.{Arc}
use Rattle.taxi_base.specs.Walks.{conditions_among}
use Rattle.table_rows.specs.HasRows.{HasEach}
use Rattle.table_rows.specs.Reached.{IsReachedAt}
use Rattle.check_rows.proofs.LoopLaws.{all-fails, all-holds, all-more, says-no, says-yes}
use Rattle.check_rows.proofs.closed.arcs_have_rows.Goals as goal

abbrev none : Arc
none = record { 0 = 0 }

pub returns-then-not-closed-clause-closed : goal.returns-then-not-closed-clause-closed
returns-then-not-closed-clause-closed g c =
    all-fails (λ arc. HasEach c.args.reach.way (IsReachedAt (conditions_among c.args.airport.now c.args.class (g.H.HoldsOf.held c.args.holds.now)) c.args.reach arc) c.args.table.now.bound c.args.table.now.rows.now) c.args.arcs.now c.loop-arc.arc-index none c.loop-arc-test.true
    (says-no _ c.if-not-closed.true c.in_ok-closed.ensures.closed)

pub loop-arc-preserved : goal.loop-arc-preserved
loop-arc-preserved g c = record {
  known = c.arc_has_rows.ensures.known;
  closed =
      all-more (λ arc. HasEach c.args.reach.way (IsReachedAt (conditions_among c.args.airport.now c.args.class (g.H.HoldsOf.held c.args.holds.now)) c.args.reach arc) c.args.table.now.bound c.args.table.now.rows.now) c.args.arcs.now c.loop-arc.arc-index none c.loop-arc-test.true
      c.loop-arc.invariant.closed (says-yes _ c.if-not-closed.false c.in_ok-closed.ensures.closed);
}

pub returns-clause-closed : goal.returns-clause-closed
returns-clause-closed g c =
    all-holds (λ arc. HasEach c.args.reach.way (IsReachedAt (conditions_among c.args.airport.now c.args.class (g.H.HoldsOf.held c.args.holds.now)) c.args.reach arc) c.args.table.now.bound c.args.table.now.rows.now) c.args.arcs.now c.loop-arc.arc-index c.loop-arc-test.false c.loop-arc.invariant.closed
