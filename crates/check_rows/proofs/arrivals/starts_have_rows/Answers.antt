use Rattle.std.proofs.Common.{◌↔◌, IsTrue, sym, subst}
use Rattle.std.specs.Prelude.{IfOk}
use Rattle.taxi_base.specs.Walks.{conditions_among}
use Rattle.walk_labels.specs.Rules.{IsStartBy}
use Rattle.check_rows.specs.declared.arrivals.Begin.{Begin}
use Rattle.table_rows.specs.declared.reach.Way.TheVariants.{Forward}
use Rattle.table_rows.specs.HasRows.{HasEach}
use Rattle.check_rows.specs.Rules.{beginning_of}
use Rattle.check_rows.proofs.arrivals.starts_have_rows.Goals as goal

pub returns-in-AtNode-clause-begun : goal.returns-in-AtNode-clause-begun
returns-in-AtNode-clause-begun g c =
    subst (λ (b : Begin). IfOk c.leaving_have_rows.result (λ holds. IsTrue holds ↔ HasEach Forward (IsStartBy (conditions_among c.args.airport.now c.args.class (g.H.HoldsOf.held c.args.holds.now)) (beginning_of b)) c.args.table.now.bound c.args.table.now.rows.now))
    (sym c.in-AtNode.is) c.leaving_have_rows.ensures.begun

pub returns-in-Resuming-clause-begun : goal.returns-in-Resuming-clause-begun
returns-in-Resuming-clause-begun g c =
    subst (λ (b : Begin). IfOk c.resuming_have_rows.result (λ holds. IsTrue holds ↔ HasEach Forward (IsStartBy (conditions_among c.args.airport.now c.args.class (g.H.HoldsOf.held c.args.holds.now)) (beginning_of b)) c.args.table.now.bound c.args.table.now.rows.now))
    (sym c.in-Resuming.is) c.resuming_have_rows.ensures.begun
