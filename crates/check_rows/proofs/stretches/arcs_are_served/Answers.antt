use Rattle.taxi_base.specs.declared.numbers.Arc.{Arc}
use Rattle.taxi_base.specs.Walks.{conditions_among, free_among}
use Rattle.table_rows.specs.HasRows.{HasEach}
use Rattle.table_rows.specs.Reached.{IsReachedAt}
use Rattle.check_rows.proofs.LoopLaws.{all-holds, all-more, says-yes}
use Rattle.check_rows.proofs.stretches.arcs_are_served.Goals as goal

abbrev none : Arc
none = record { 0 = 0 }

pub loop-arc-preserved-then-holds : goal.loop-arc-preserved-then-holds
loop-arc-preserved-then-holds g c =
    let conditions = conditions_among c.args.airport.now c.args.class (g.H.HoldsOf.held c.args.holds.now) in
    let bound = c.args.table.now.bound in
    let rows = c.args.table.now.rows.now in
    record {
      known = c.loop-arc.invariant.known;
      served = c.loop-arc.invariant.served;
      closed =
          all-more (λ arc. HasEach c.args.reach.way (IsReachedAt conditions c.args.reach arc) bound rows) c.args.arcs.now c.loop-arc.arc-index none c.loop-arc-test.true c.loop-arc.invariant.closed
          (c.holds.ensures conditions bound rows c.loop-arc.invariant.served c.if-holds.true);
    }

pub loop-arc-preserved-then-first_row_serves : goal.loop-arc-preserved-then-first_row_serves
loop-arc-preserved-then-first_row_serves g c =
    let conditions = conditions_among c.args.airport.now c.args.class (g.H.HoldsOf.held c.args.holds.now) in
    let free = free_among c.args.airport.now (g.H.HoldsOf.held c.args.holds.now) in
    let bound = c.args.table.now.bound in
    let rows = c.args.table.now.rows.now in
    record {
      known = c.loop-arc.invariant.known;
      served = c.loop-arc.invariant.served;
      closed =
          all-more (λ arc. HasEach c.args.reach.way (IsReachedAt conditions c.args.reach arc) bound rows) c.args.arcs.now c.loop-arc.arc-index none c.loop-arc-test.true c.loop-arc.invariant.closed
          (c.first_row_serves.ensures free c.requires.places c.if-first_row_serves.true);
    }

pub loop-arc-preserved : goal.loop-arc-preserved
loop-arc-preserved g c = record {
  known = c.arc_is_served.ensures.known;
  served = c.arc_is_served.ensures.served;
  closed =
      all-more (λ arc. HasEach c.args.reach.way (IsReachedAt (conditions_among c.args.airport.now c.args.class (g.H.HoldsOf.held c.args.holds.now)) c.args.reach arc) c.args.table.now.bound c.args.table.now.rows.now) c.args.arcs.now c.loop-arc.arc-index none c.loop-arc-test.true
      c.loop-arc.invariant.closed (says-yes _ c.if-not-closed.false c.in_ok-closed.ensures.closed);
}

pub returns-clause-closed : goal.returns-clause-closed
returns-clause-closed g c =
    all-holds (λ arc. HasEach c.args.reach.way (IsReachedAt (conditions_among c.args.airport.now c.args.class (g.H.HoldsOf.held c.args.holds.now)) c.args.reach arc) c.args.table.now.bound c.args.table.now.rows.now) c.args.arcs.now c.loop-arc.arc-index c.loop-arc-test.false c.loop-arc.invariant.closed
