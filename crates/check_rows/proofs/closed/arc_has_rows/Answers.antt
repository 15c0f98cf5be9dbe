use Rattle.std.proofs.Common.{◌↔◌, IsTrue, sym, ◌∙◌, ap, subst}
use Rattle.taxi_base.specs.Airport.{segment_of, seconds_in}
use Rattle.taxi_base.specs.declared.numbers.Segment.{Segment}
use Rattle.taxi_base.specs.Walks.{conditions_among}
use Rattle.aircraft_class.specs.Times.{Times}
use Rattle.table_rows.specs.declared.reach.Reach.{Reach}
use Rattle.table_rows.specs.HasRows.{HasEach}
use Rattle.table_rows.specs.Reached.{IsReachedAt}
use Rattle.table_rows.proofs.EachLaws.{same-test}
use Rattle.table_rows.proofs.ReachLaws.{each-short}
use Rattle.check_rows.proofs.closed.arc_has_rows.Goals as goal

pub part_has_rows-requires-clause-takes : goal.part_has_rows-requires-clause-takes
part_has_rows-requires-clause-takes g c =
    ap (λ (times : Times). seconds_in times.table c.args.class (segment_of c.args.arc)) (sym c.classes.ensures) ∙ ap (λ (s : Segment). seconds_in c.classes.result.now.table c.args.class s) (sym c.segment.ensures) ∙ sym c.seconds.ensures.set ∙ c.in-Some.is

pub returns-in_ok-closed-in-Some-clause-closed : goal.returns-in_ok-closed-in-Some-clause-closed
returns-in_ok-closed-in-Some-clause-closed g c =
    let conditions = conditions_among c.args.airport.now c.args.class (g.H.HoldsOf.held c.args.holds.now) in
    let part = subst (λ (r : Reach). IsTrue c.in_ok-closed-in-Some.closed ↔ HasEach r.way (IsReachedAt conditions r c.args.arc) c.args.table.now.bound c.args.table.now.rows.now) c.short_part-short.ensures c.in_ok-closed-in-Some.ensures.closed in
    same-test part (each-short conditions c.args.arc c.args.reach c.args.table.now.bound c.args.table.now.rows.now)
