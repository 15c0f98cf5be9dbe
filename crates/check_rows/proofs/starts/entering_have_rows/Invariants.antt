use Rattle.std.proofs.Common.{[], ◌∷◌, All, take, length}
use Rattle.taxi_base.specs.Walks.{conditions_among, free_among}
use Rattle.walk_labels.specs.BackwardRules.{IsFinishAt}
use Rattle.table_rows.specs.declared.reach.Way.TheVariants.{Backward}
use Rattle.check_rows.specs.Known.{AreKnown}
use Rattle.table_rows.specs.HasRows.{HasEach}
use Rattle.check_rows.proofs.starts.entering_have_rows.Given as goal

abbrev pub invariant-loop-node : goal.invariant-loop-node
invariant-loop-node g l = record {
  known : AreKnown (length l.airport.segments) (free_among l.airport (g.H.HoldsOf.held l.holds)) l.known;
  begun : All (λ node. HasEach Backward (IsFinishAt (conditions_among l.airport l.class (g.H.HoldsOf.held l.holds)) (node ∷ []) l.from l.by) l.table.bound l.table.rows.now) (take l.node-index l.nodes);
}
