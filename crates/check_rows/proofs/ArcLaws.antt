-- It is enough to go through the arcs at a node, or around a row's.
use Rattle.std.proofs.Common.{◌≡◌, ◌↔◌, ℕ, ◌<◌, Option, Some, List, [], ◌∷◌, length, get_or, All, IsTrue, refl, sym, subst}
use Rattle.std.proofs.lemmas.List.{get_or_default}
use Rattle.taxi_base.specs.Lists.{AreAll}
use Rattle.taxi_base.specs.declared.numbers.Arc.{Arc}
use Rattle.taxi_base.specs.declared.numbers.Node.{Node}
use Rattle.taxi_base.specs.declared.rows.LabelRow.{LabelRow}
use Rattle.taxi_base.specs.Airport.{Layout, layout_of, head, arc_exists}
use Rattle.taxi_base.specs.Walks.{Conditions}
use Rattle.walk_labels.specs.Rules.{IsStartAtNode}
use Rattle.walk_labels.specs.BackwardRules.{IsFinishAt}
use Rattle.taxi_base.proofs.OneOfLaws.{OneOf-found, OneOf-member}
use Rattle.taxi_base.proofs.AirportLaws.{permits-exist}
use Rattle.segment_graph.specs.Graphs.{AreLeaving, AreEntering}
use Rattle.table_rows.specs.declared.reach.Way.{Way}
use Rattle.table_rows.specs.declared.reach.Way.TheVariants.{Forward, Backward}
use Rattle.table_rows.specs.declared.reach.Reach.{Reach}
use Rattle.table_rows.specs.HasRows.{HasEach}
use Rattle.check_rows.specs.Rules.{ComesOf}
use Rattle.table_rows.specs.Reached.{IsReachedBy, IsReachedAt}
use Rattle.check_rows.specs.Comes.{reach_of, AreNeighbours}
use Rattle.table_rows.proofs.EachLaws.{each-by_parts}

-- ---- arcs of a turn

listed : {Has : Arc → Type 0} (arcs : List Arc) → AreAll (λ a. a.0) Has arcs → (k : ℕ) (d : Arc) → k < length arcs → Has (get_or arcs k d)
listed arcs all k d on = (all.each (get_or arcs k d)).0 (k, on, get_or_default arcs k (get_or arcs k d) d on)

pub neighbours-exist : (way : Way) (layout : Layout) (arc : Arc) (arcs : List Arc) → AreNeighbours way layout arc arcs → All (λ a. IsTrue (arc_exists layout a)) arcs
neighbours-exist Forward layout x arcs all k d on = (permits-exist layout x (get_or arcs k d) (listed arcs all k d on)).1
neighbours-exist Backward layout y arcs all k d on = (permits-exist layout (get_or arcs k d) y (listed arcs all k d on)).0

pub reach_of-way : (way : Way) (c : Conditions) (row : LabelRow) → (reach_of way c row).way ≡ way
reach_of-way Forward c row = refl
reach_of-way Backward c row = refl

-- ---- labels by their arcs

module _ (c : Conditions) (bound : Option ℕ) (rows : List LabelRow) where
  -- labels of arcs with a property, that are reached in time
  each-by_arcs : (reach : Reach) (Has : Arc → Type 0) (IsOne : LabelRow → Type 0) (arcs : List Arc) → AreAll (λ a. a.0) Has arcs
      → ((label : LabelRow) → IsOne label → Has label.arc × IsReachedBy reach.way c reach.from reach.by label)
      → ((label : LabelRow) → Has label.arc → IsReachedBy reach.way c reach.from reach.by label → IsOne label)
      → All (λ arc. HasEach reach.way (IsReachedAt c reach arc) bound rows) arcs ↔ HasEach reach.way IsOne bound rows
  each-by_arcs reach Has IsOne arcs all part one =
      each-by_parts reach.way bound rows arcs (IsReachedAt c reach) IsOne
      (λ label is. (let h = part label is in (label.arc, (all.each label.arc).1 h.0, (refl, h.1))))
      (λ arc label on reached. one label (subst Has (sym reached.0) ((all.each arc).0 on)) reached.1)

  pub starts-by_arcs : (node : Node) (from by : ℕ) (arcs : List Arc) → AreLeaving (layout_of c.airport) node arcs
      → All (λ arc. HasEach Forward (IsReachedAt c (record { way = Forward; from = from; by = by }) arc) bound rows) arcs ↔ HasEach Forward (IsStartAtNode c node from by) bound rows
  starts-by_arcs node from by arcs all =
      each-by_arcs (record { way = Forward; from = from; by = by }) _ (IsStartAtNode c node from by) arcs all
      (λ label start. (start.leaves, record { is_place = start.is_place; in_time = start.not_late; value = start.value; in_window = start.in_window }))
      (λ label has entered. record { is_place = entered.is_place; leaves = has; not_late = entered.in_time; value = entered.value; in_window = entered.in_window })

  pub finishes-by_arcs : (node : Node) (from by : ℕ) (arcs : List Arc) → AreEntering (layout_of c.airport) node arcs
      → All (λ arc. HasEach Backward (IsReachedAt c (record { way = Backward; from = from; by = by }) arc) bound rows) arcs ↔ HasEach Backward (IsFinishAt c (node ∷ []) from by) bound rows
  finishes-by_arcs node from by arcs all =
      each-by_arcs (record { way = Backward; from = from; by = by }) _ (IsFinishAt c (node ∷ []) from by) arcs all
      (λ label finish. (finish.reaches, record { is_place = finish.is_place; in_time = finish.not_early; value = finish.value; in_window = finish.in_window }))
      (λ label has left. record { is_place = left.is_place; reaches = has; not_early = left.in_time; value = left.value; in_window = left.in_window })

  -- and those of nodes by the nodes
  pub finishes-by_nodes : (nodes : List Node) (from by : ℕ) → All (λ node. HasEach Backward (IsFinishAt c (node ∷ []) from by) bound rows) nodes ↔ HasEach Backward (IsFinishAt c nodes from by) bound rows
  finishes-by_nodes nodes from by =
      each-by_parts Backward bound rows nodes (λ node. IsFinishAt c (node ∷ []) from by) (IsFinishAt c nodes from by)
      (λ label finish. (
      let found = OneOf-found (λ node. head (layout_of c.airport) label.arc ≡ Some node) nodes finish.reaches in
      (found.0, found.1, record { is_place = finish.is_place; reaches = found.2; not_early = finish.not_early; value = finish.value; in_window = finish.in_window })))
      (λ node label on finish.
      record {
        is_place = finish.is_place;
        reaches = OneOf-member (λ n. head (layout_of c.airport) label.arc ≡ Some n) nodes node on finish.reaches;
        not_early = finish.not_early;
        value = finish.value;
        in_window = finish.in_window;
      })

  -- those that come of a row
  pub comes-by_arcs : (way : Way) (row : LabelRow) (arcs : List Arc) → AreNeighbours way (layout_of c.airport) row.arc arcs
      → All (λ arc. HasEach (reach_of way c row).way (IsReachedAt c (reach_of way c row) arc) bound rows) arcs ↔ HasEach way (ComesOf way c row) bound rows
  comes-by_arcs Forward row arcs all =
      each-by_arcs (reach_of Forward c row) _ (ComesOf Forward c row) arcs all
      (λ next comes. (comes.permitted, record { is_place = comes.is_place; in_time = comes.still_held; value = comes.value; in_window = comes.in_window }))
      (λ next has entered. record { is_place = entered.is_place; permitted = has; still_held = entered.in_time; value = entered.value; in_window = entered.in_window })
  comes-by_arcs Backward row arcs all =
      each-by_arcs (reach_of Backward c row) _ (ComesOf Backward c row) arcs all
      (λ previous comes. (comes.permitted, record { is_place = comes.is_place; in_time = comes.already_held; value = comes.value; in_window = comes.in_window }))
      (λ previous has left. record { is_place = left.is_place; permitted = has; already_held = left.in_time; value = left.value; in_window = left.in_window })
