use Rattle.std.proofs.Common.{◌≡◌, ℕ, List, length, min, Option}
use Rattle.label_search.specs.declared.labels.Label.{Label}
use Rattle.label_search.specs.Values.{AreAsBeforeFrom, AreRowsTo}
use Rattle.label_search.proofs.Taking.{IsTakenTo}
use Rattle.label_search.proofs.values.take_group.Given as goal

abbrev pub invariant-cells : goal.invariant-cells
invariant-cells g l = record {
  done : ℕ;
  taken : IsTakenTo l.marks l.first l.initial.known l.known l.left done;
  rows : (all : List (Option Label)) → AreAsBeforeFrom l.first all l.initial.known → length all ≡ length l.initial.known
      → AreRowsTo (g.C.ForwardCells.told l.cells) l.bound all (min l.first (length all)) l.initial.rows → AreRowsTo (g.C.ForwardCells.told l.cells) l.bound all (min done (length all)) l.rows;
}

abbrev pub decreases-cells : goal.decreases-cells
decreases-cells g l = l.left
