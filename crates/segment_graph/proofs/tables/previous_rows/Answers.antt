-- One more row.
use Rattle.taxi_base.specs.declared.numbers.Arc.{Arc}
use Rattle.segment_graph.specs.Groups.{groups_of, AreTurnsTo}
use Rattle.segment_graph.proofs.Gathered.{AreArcRows-push}
use Rattle.segment_graph.proofs.tables.previous_rows.Goals as goal

pub loop-number-preserved : goal.loop-number-preserved
loop-number-preserved c =
    let arc : Arc = record { 0 = c.loop-number.number } in
    rw (c.in_ok-push_row.ensures.ok, c.deref.ensures.value)
    (AreArcRows-push (AreTurnsTo c.args.links.now (groups_of c.args.barred.now)) c.loop-number.rows arc c.in_ok-row.row.items c.loop-number.invariant c.in_ok-row.ensures)
