use Rattle.segment_graph.specs.Graphs.{AreArcRows}
use Rattle.segment_graph.specs.Groups.{groups_of, AreTurnsFrom}
use Rattle.segment_graph.proofs.tables.next_rows.Given as goal

abbrev pub invariant-loop-number : goal.invariant-loop-number
invariant-loop-number l = AreArcRows l.number (AreTurnsFrom l.links (groups_of l.barred)) l.rows
