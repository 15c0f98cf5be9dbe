use Rattle.segment_graph.specs.Graphs.{AreArcRows}
use Rattle.segment_graph.specs.Groups.{groups_of, AreTurnsTo}
use Rattle.segment_graph.proofs.tables.previous_rows.Given as goal

abbrev pub invariant-loop-number : goal.invariant-loop-number
invariant-loop-number l = AreArcRows l.number (AreTurnsTo l.links (groups_of l.barred)) l.rows
