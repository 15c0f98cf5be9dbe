use Rattle.std.proofs.Common.{◌≡◌, ◌↔◌, ◌∙◌, IsTrue, All, ap, sym, subst}
use Rattle.taxi_base.specs.Airport.{Layout, layout_of}
use Rattle.taxi_base.specs.Walks.{conditions_among, free_among}
use Rattle.table_rows.specs.declared.reach.Way.{Way}
use Rattle.table_rows.specs.declared.reach.Reach.{Reach}
use Rattle.table_rows.specs.HasRows.{HasEach}
use Rattle.table_rows.specs.Reached.{IsReachedAt}
use Rattle.check_rows.specs.Comes.{AreNeighbours}
use Rattle.table_rows.specs.Served.{AreServed}
use Rattle.table_rows.proofs.EachLaws.{same-test}
use Rattle.check_rows.proofs.ArcLaws.{comes-by_arcs, neighbours-exist, reach_of-way}
use Rattle.check_rows.proofs.steps.labels_of_row_have_rows.Goals as goal

pub arcs_are_served-requires-clause-exist : goal.arcs_are_served-requires-clause-exist
arcs_are_served-requires-clause-exist g c =
    let all = subst (λ (l : Layout). AreNeighbours c.args.way l c.args.row.arc c.neighbours-arcs.result.now) c.graph.ensures c.neighbours-arcs.ensures in
    neighbours-exist c.args.way (layout_of c.args.airport.now) c.args.row.arc c.neighbours-arcs.result.now all

pub arcs_are_served-requires-clause-served : goal.arcs_are_served-requires-clause-served
arcs_are_served-requires-clause-served g c =
    let free = free_among c.args.airport.now (g.H.HoldsOf.held c.args.holds.now) in
    let conditions = conditions_among c.args.airport.now c.args.class (g.H.HoldsOf.held c.args.holds.now) in
    let way : c.args.way ≡ c.reach_of-reach.result.way = sym (ap (λ (r : Reach). r.way) (c.reach_of-reach.ensures free) ∙ reach_of-way c.args.way conditions c.args.row) in
    subst (λ (w : Way). AreServed w conditions c.args.table.now.bound c.args.table.now.rows.now c.args.served.now) way c.requires.served

pub returns-in_err-closed-clause-served : goal.returns-in_err-closed-clause-served
returns-in_err-closed-clause-served g c =
    let free = free_among c.args.airport.now (g.H.HoldsOf.held c.args.holds.now) in
    let conditions = conditions_among c.args.airport.now c.args.class (g.H.HoldsOf.held c.args.holds.now) in
    let way : c.reach_of-reach.result.way ≡ c.args.way = ap (λ (r : Reach). r.way) (c.reach_of-reach.ensures free) ∙ reach_of-way c.args.way conditions c.args.row in
    subst (λ (w : Way). AreServed w conditions c.args.table.now.bound c.args.table.now.rows.now c.arcs_are_served.new.served) way c.arcs_are_served.ensures.served

pub returns-clause-served : goal.returns-clause-served
returns-clause-served g c =
    let free = free_among c.args.airport.now (g.H.HoldsOf.held c.args.holds.now) in
    let conditions = conditions_among c.args.airport.now c.args.class (g.H.HoldsOf.held c.args.holds.now) in
    let way : c.reach_of-reach.result.way ≡ c.args.way = ap (λ (r : Reach). r.way) (c.reach_of-reach.ensures free) ∙ reach_of-way c.args.way conditions c.args.row in
    subst (λ (w : Way). AreServed w conditions c.args.table.now.bound c.args.table.now.rows.now c.arcs_are_served.new.served) way c.arcs_are_served.ensures.served

pub returns-clause-closed : goal.returns-clause-closed
returns-clause-closed g c =
    let all = subst (λ (l : Layout). AreNeighbours c.args.way l c.args.row.arc c.neighbours-arcs.result.now) c.graph.ensures c.neighbours-arcs.ensures in
    let free = free_among c.args.airport.now (g.H.HoldsOf.held c.args.holds.now) in
    let asked = subst (λ (r : Reach). IsTrue c.in_ok-closed.closed ↔ All (λ arc. HasEach r.way (IsReachedAt (conditions_among c.args.airport.now c.args.class (g.H.HoldsOf.held c.args.holds.now)) r arc) c.args.table.now.bound c.args.table.now.rows.now) c.neighbours-arcs.result.now)
    (c.reach_of-reach.ensures free) c.in_ok-closed.ensures.closed in
    same-test asked (comes-by_arcs (conditions_among c.args.airport.now c.args.class (g.H.HoldsOf.held c.args.holds.now)) c.args.table.now.bound c.args.table.now.rows.now c.args.way c.args.row c.neighbours-arcs.result.now all)
