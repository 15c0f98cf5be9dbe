use Rattle.std.proofs.Common.{refl, sym}
use Rattle.taxi_base.specs.Walks.{conditions_among}
use Rattle.table_rows.proofs.ServedLaws.{each-within}
use Rattle.check_rows.proofs.stretches.arc_is_served.Goals as goal

pub returns-then-is_within-clause-closed : goal.returns-then-is_within-clause-closed
returns-then-is_within-clause-closed g c =
    let conditions = conditions_among c.args.airport.now c.args.class (g.H.HoldsOf.held c.args.holds.now) in
    let within = c.is_within.ensures.0 c.if-is_within.true in (
      λ _. each-within conditions c.args.arc c.in_ok-stretch.stretch c.args.reach c.args.table.now.bound c.args.table.now.rows.now
          (record { way = sym c.in_ok-stretch.ensures.way; begins = within.0; ends = within.1 }) c.in_ok-stretch.ensures.served,
      λ _. refl,
    )
