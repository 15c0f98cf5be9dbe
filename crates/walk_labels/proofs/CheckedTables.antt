-- A table that passes the rules leaves no walk out, and the table of all labels passes them.
use Rattle.std.proofs.Common.{◌≡◌, ℕ, ◌<◌, ◌≤◌, Bool, true, ◌&&◌, leb, eqb, List, [], ◌∷◌, length, get_or, inl, inr, ◌⊎◌, IsTrue, Option, Some, None, refl, sym, ◌∙◌, ap, subst, arith, ◌↔◌}
use Rattle.std.specs.Prelude.{AllPairs, Contains}
use Rattle.std.specs.List.{list_any}
use Rattle.std.proofs.lemmas.Bool.{and_parts, and_from, le-leb, leb-true, eq-eqb, eqb-true, both_ways, cases_Bool, cases_order}
use Rattle.std.proofs.lemmas.List.{get_or_default}
use Rattle.std.proofs.lemmas.List.Elements.{All-contains}
use Rattle.taxi_base.specs.declared.numbers.Node.{Node}
use Rattle.taxi_base.specs.declared.numbers.Arc.{Arc}
use Rattle.taxi_base.specs.declared.rows.Step.{Step}
use Rattle.taxi_base.specs.declared.rows.LabelRow.{LabelRow}
use Rattle.taxi_base.specs.declared.answers.Found.{Found}
use Rattle.taxi_base.specs.declared.answers.Found.TheVariants.{Route, NoRoute}
use Rattle.taxi_base.specs.Airport.{layout_of, head}
use Rattle.taxi_base.specs.Walks.{Conditions, IsRoute, AtLast, end_of}
use Rattle.taxi_base.specs.Labels.{IsStepOf, precedes, IsTable, IsExitBefore, AnswersArrival}
use Rattle.taxi_base.proofs.ListLaws.{list_any-true, list_any-member}
use Rattle.taxi_base.proofs.WalkLaws.{AtLast-weaker}
use Rattle.label_core.specs.Walks.{Start, Reaches, IsEarliestExit}
use Rattle.label_core.specs.Labels.{IsStartEntry, IsExpansion}
use Rattle.label_core.specs.Tables.{IsBelow, IsClosed, IsAttained, HasAsGood}
use Rattle.label_core.proofs.ExactTables.{exact_closed, row_earliest, earliest_row}
use Rattle.label_core.proofs.NoneSooner.{none_sooner, none_at_all}
use Rattle.walk_labels.specs.Places.{AreFit, Place, IsPlace, network_of, label_at, place_of}
use Rattle.taxi_base.specs.Choices.{OneOf, ReachesOneOf}
use Rattle.walk_labels.specs.Requests.{AreStarts, targets_at}
use Rattle.walk_labels.specs.Rules.{IsNext, HasAsEarly, PassesForward, PassesArrival}
use Rattle.walk_labels.proofs.CellLabels.{exit_label, exit_of_cell, exit_place, target_by_route, cell_by_route}
use Rattle.walk_labels.proofs.PlaceCells.{seconds_at-takes, network-cells, precedes-not_same}
use Rattle.walk_labels.proofs.RequestCells.{leads-OneOf, targets_at-are}
use Rattle.walk_labels.proofs.PickedLabels.{cell_seconds}
use Rattle.walk_labels.proofs.LabelTables.{exit_before, exit_table}

-- a table has a place's values by its rows
abbrev pub RowOf : List LabelRow → Place → ℕ → Type 0
RowOf rows p v = Contains rows (label_at p v)

-- ---- whether a row is as early

is_early : Place → ℕ → LabelRow → Bool
is_early p t row = eqb row.arc.0 p.arc.0 && (eqb row.from p.window.from && (eqb row.until p.window.until && leb row.value t))

pub early_row : (rows : List LabelRow) (p : Place) (t : ℕ) → HasAsGood (RowOf rows) p t ⊎ (HasAsGood (RowOf rows) p t → ⊥)
unfolding is_early
early_row rows p t =
    elim (cases_Bool (list_any (is_early p t) rows)) [
      | inl some ↦
          let found = list_any-true (is_early p t) rows some in
          let arc = and_parts (eqb found.0.arc.0 p.arc.0) (eqb found.0.from p.window.from && (eqb found.0.until p.window.until && leb found.0.value t)) found.2 in
          let from = and_parts (eqb found.0.from p.window.from) (eqb found.0.until p.window.until && leb found.0.value t) arc.1 in
          let until = and_parts (eqb found.0.until p.window.until) (leb found.0.value t) from.1 in
          let arc_e : found.0.arc.0 ≡ p.arc.0 = eqb-true found.0.arc.0 p.arc.0 arc.0 in
          let from_e : found.0.from ≡ p.window.from = eqb-true found.0.from p.window.from from.0 in
          let until_e : found.0.until ≡ p.window.until = eqb-true found.0.until p.window.until until.0 in
          let same : found.0 ≡ label_at p found.0.value = λ i. record { arc = record { 0 = arc_e i }; from = from_e i; until = until_e i; value = found.0.value } in
          inl (found.0.value, subst (Contains rows) same found.1, leb-true found.0.value t until.1)
      | inr none ↦ inr (λ has.
          both_ways (list_any (is_early p t) rows) none
          (list_any-member (is_early p t) rows (label_at p has.0) has.1
          (and_from (eqb p.arc.0 p.arc.0) (eqb p.window.from p.window.from && (eqb p.window.until p.window.until && leb has.0 t)) (eq-eqb p.arc.0 p.arc.0 refl)
          (and_from (eqb p.window.from p.window.from) (eqb p.window.until p.window.until && leb has.0 t) (eq-eqb p.window.from p.window.from refl)
          (and_from (eqb p.window.until p.window.until) (leb has.0 t) (eq-eqb p.window.until p.window.until refl) (le-leb has.0 t has.2))))))
    ]

-- rows in order have one value a place
pub one_row : (rows : List LabelRow) → AllPairs (λ p q. IsTrue (precedes p q)) rows → (p : Place) (v w : ℕ) → RowOf rows p v → RowOf rows p w → v ≡ w
one_row rows ordered p v w row other =
    elim (cases_order row.0 other.0) [
      | inl e ↦
          let same : label_at p v ≡ label_at p w =
          sym row.2 ∙ get_or_default rows row.0 (label_at p v) (label_at p w) row.1 ∙ ap (λ (k : ℕ). get_or rows k (label_at p w)) e ∙ other.2 in
          ap (λ (l : LabelRow). l.value) same
      | inr differ ↦ elim differ [
        | inl before ↦ absurd (not_itself v w (in_order row.0 other.0 v w before other.1 row.2 other.2))
        | inr after ↦ absurd (not_itself w v (in_order other.0 row.0 w v after row.1 other.2 row.2))
      ]
    ]
  where
    not_itself : (a b : ℕ) → IsTrue (precedes (label_at p a) (label_at p b)) → ⊥
    not_itself a b h = precedes-not_same p p h refl

    in_order : (i j a b : ℕ) → i < j → j < length rows → get_or rows i (label_at p a) ≡ label_at p a → get_or rows j (label_at p b) ≡ label_at p b → IsTrue (precedes (label_at p a) (label_at p b))
    in_order i j a b before on first second =
        let d : LabelRow = label_at p a in
        let later : get_or rows j d ≡ label_at p b = get_or_default rows j d (label_at p b) on ∙ second in
        subst (λ l. IsTrue (precedes l (label_at p b))) first (subst (λ l. IsTrue (precedes (get_or rows i d) l)) later (ordered i j d before on))

module _ (c : Conditions) (fit : AreFit c) (Begins : Step → Type 0) (starts : Place → Option Start) (are : AreStarts c (network_of c) (λ p. p) Begins starts)
    (IsStart : LabelRow → Type 0) where
  -- ---- expansions and next labels

  next_of : (p q : Place) (v t : ℕ) → IsExpansion (network_of c) p v q t → IsNext c (label_at p v) (label_at q t)
  next_of p q v t e =
      let cells = network-cells c fit in
      let turn = (cells.turn p q).0 e.by_turn in
      record {
        is_place = turn.1;
        permitted = turn.2;
        still_held = omega (arith, e.still_held, cells.from q turn.1, cells.last p turn.0);
        value = omega (arith, e.value, cells.from q turn.1, cell_seconds c fit (network_of c) (λ r. r) cells q t turn.1);
        in_window = omega (arith, e.in_time, cells.last q turn.1);
      }

  expansion_of : (p : Place) (v : ℕ) (next : LabelRow) → IsPlace c p → IsNext c (label_at p v) next → IsExpansion (network_of c) p v (place_of next) next.value
  expansion_of p v next is n =
      let cells = network-cells c fit in
      record {
        by_turn = (cells.turn p (place_of next)).1 (is, n.is_place, n.permitted);
        value = omega (arith, n.value, cells.from (place_of next) n.is_place, cell_seconds c fit (network_of c) (λ r. r) cells (place_of next) next.value n.is_place);
        still_held = omega (arith, n.still_held, cells.from (place_of next) n.is_place, cells.last p is);
        in_time = omega (arith, n.in_window, cells.last (place_of next) n.is_place);
      }

  takes : (p : Place) → 1 ≤ (network_of c).seconds p
  takes p = seconds_at-takes c fit p.arc

  -- ---- what passes leaves no walk out

  module _ (start_known : (p : Place) (t : ℕ) → IsStartEntry (network_of c) starts p t → IsStart (label_at p t)) where
    pub closed_cells : (bound : Option ℕ) (rows : List LabelRow) → ((label : LabelRow) → IsStart label → IsBelow bound label.value → HasAsEarly rows label)
        → ((row next : LabelRow) → Contains rows row → IsNext c row next → IsBelow bound next.value → HasAsEarly rows next) → IsClosed (network_of c) starts bound (RowOf rows)
    closed_cells bound rows starts_in next_in = record {
      starts_in = λ p t e below. starts_in (label_at p t) (start_known p t e) below;
      expansions_in = λ p q v t row e below. next_in (label_at p v) (label_at q t) row (next_of p q v t e) below;
    }

    -- rows that are attained and leave none out are the table of all labels below the bound
    pub closed_is_table : (bound : Option ℕ) (rows : List LabelRow) → AllPairs (λ p q. IsTrue (precedes p q)) rows
        → ((row : LabelRow) → Contains rows row → IsPlace c (place_of row) × ((steps : List Step) × IsRoute c Begins (IsStepOf c row) steps × (end_of steps ≡ row.value)) × IsBelow bound row.value)
        → ((label : LabelRow) → IsStart label → IsBelow bound label.value → HasAsEarly rows label)
        → ((row next : LabelRow) → Contains rows row → IsNext c row next → IsBelow bound next.value → HasAsEarly rows next) → IsTable (IsExitBefore c Begins bound) rows
    closed_is_table bound rows ordered each starts_in next_in =
        exit_table c fit (network_of c) (λ p. p) (network-cells c fit) bound (RowOf rows) rows ordered (λ row on. (place_of row, refl, on)) (λ p v row. row) Begins starts are
        (λ p v. (
          λ row. (
              let h = each (label_at p v) row in
              (row_earliest (network_of c) starts bound (RowOf rows) takes closed attained p v row h.2, h.2)),
          λ h. earliest_row (network_of c) starts bound (RowOf rows) takes closed attained p v h.0 h.1,
        ))
      where
        closed : IsClosed (network_of c) starts bound (RowOf rows)
        closed = closed_cells bound rows starts_in next_in

        attained : IsAttained (network_of c) starts (RowOf rows)
        attained = record {
          reached = λ p v row. (
              let h = each (label_at p v) row in
              subst (Reaches (network_of c) starts p) h.1.2 (cell_by_route c fit (network_of c) (λ q. q) (network-cells c fit) Begins starts are p v h.1.0 h.0 h.1.1));
          single = λ p v w row other. one_row rows ordered p v w row other;
        }

    no_target_row : (to : List Node) (bound : Option ℕ) (rows : List LabelRow) → PassesForward c IsStart to bound rows
        → (p : Place) (v : ℕ) → targets_at (layout_of c.airport) (λ q. q) to p ≡ true → RowOf rows p v → ⊥
    no_target_row to bound rows passes p v is row =
        All-contains (λ r. OneOf (λ node. head (layout_of c.airport) r.arc ≡ Some node) to → ⊥) rows (label_at p v) passes.none_reaches row ((leads-OneOf (layout_of c.airport) to p.arc).0 is)

    -- No walk to the node ends before the bound. This is the argument of the checker, which makes no search.
    -- It looks at the rows of a table alone: that there is one as early for each way to begin (rule start), and for each next
    -- label of a row (rule step), below the bound. By these two rules the table is closed, whoever made it.
    -- A closed table has a row as early for each walk that ends below the bound, at the walk's last cell.
    -- By rule target no row reaches the node. So no walk reaches it below the bound, and the route that ends at the bound is best.
    pub passed_none_sooner : (to : List Node) (end : ℕ) (rows : List LabelRow) → PassesForward c IsStart to (Some end) rows
        → (steps : List Step) → IsRoute c Begins (ReachesOneOf (layout_of c.airport) to) steps → end ≤ end_of steps
    passed_none_sooner to end rows passes steps route =
        let x = target_by_route c fit (network_of c) (λ p. p) (network-cells c fit) Begins starts are to (targets_at (layout_of c.airport) (λ q. q) to) (targets_at-are c (λ q. q) to) steps route in
        none_sooner (network_of c) starts (RowOf rows) (λ p. targets_at (layout_of c.airport) (λ q. q) to p ≡ true) takes (no_target_row to (Some end) rows passes) end
        (closed_cells (Some end) rows passes.starts_in passes.next_in) x.0 (end_of steps) x.1 x.2

    -- with no bound, there is none
    pub passed_none_at_all : (to : List Node) (rows : List LabelRow) → PassesForward c IsStart to None rows
        → (steps : List Step) → IsRoute c Begins (ReachesOneOf (layout_of c.airport) to) steps → ⊥
    passed_none_at_all to rows passes steps route =
        let x = target_by_route c fit (network_of c) (λ p. p) (network-cells c fit) Begins starts are to (targets_at (layout_of c.airport) (λ q. q) to) (targets_at-are c (λ q. q) to) steps route in
        none_at_all (network_of c) starts (RowOf rows) (λ p. targets_at (layout_of c.airport) (λ q. q) to p ≡ true) takes (no_target_row to None rows passes)
        (closed_cells None rows passes.starts_in passes.next_in) x.0 (end_of steps) x.1 x.2

  -- ---- the table of all labels passes

  module _ (start_entry : (label : LabelRow) → IsStart label → IsStartEntry (network_of c) starts (place_of label) label.value) where
    exact_rows : (bound : Option ℕ) (rows : List LabelRow) → IsTable (IsExitBefore c Begins bound) rows
        → (p : Place) (v : ℕ) → RowOf rows p v ↔ (IsEarliestExit (network_of c) starts p v × IsBelow bound v)
    exact_rows bound rows table p v = (
      λ row. (
          let h = (exit_before c Begins bound (label_at p v)).0 (All-contains (IsExitBefore c Begins bound) rows (label_at p v) table.each row) in
          let is = exit_place c fit (network_of c) (λ q. q) (network-cells c fit) Begins starts are (label_at p v) h.0 in
          (exit_of_cell c fit (network_of c) (λ q. q) (network-cells c fit) Begins starts are p v is h.0, h.1)),
      λ h. table.whole (label_at p v) ((exit_before c Begins bound (label_at p v)).1 ((exit_label c fit (network_of c) (λ q. q) (network-cells c fit) Begins starts are p v h.0).1, h.1)),
    )

    pub table_passes : (to : List Node) (bound : Option ℕ) (rows : List LabelRow) → IsTable (IsExitBefore c Begins bound) rows
        → ((steps : List Step) → IsRoute c Begins (ReachesOneOf (layout_of c.airport) to) steps → IsBelow bound (end_of steps) → ⊥) → PassesForward c IsStart to bound rows
    table_passes to bound rows table none = record {
      ordered = table.ordered;
      at_places = λ k d on. place_of_row (get_or rows k d) (k, on, get_or_default rows k (get_or rows k d) d on);
      starts_in = λ label is below. closed.starts_in (place_of label) label.value (start_entry label is) below;
      next_in = λ row next on n below. closed.expansions_in (place_of row) (place_of next) row.value next.value on (expansion_of (place_of row) row.value next (place_of_row row on) n) below;
      none_reaches = λ k d on reaches. (
          let row : LabelRow = get_or rows k d in
          let h = (exit_before c Begins bound row).0 (table.each k d on) in
          let route = h.0.value.1.one in
          let ends : AtLast (ReachesOneOf (layout_of c.airport) to) h.0.value.0 =
          AtLast-weaker (IsStepOf c row) (ReachesOneOf (layout_of c.airport) to) (λ l of_row. subst (λ (a : Arc). OneOf (λ node. head (layout_of c.airport) a ≡ Some node) to) (sym of_row.0) reaches) h.0.value.0 route.ends in
          none h.0.value.0 (record { walk = route.walk; begins = route.begins; ends = ends }) (subst (IsBelow bound) (sym h.0.value.2) h.1));
      short = λ k d on. ((exit_before c Begins bound (get_or rows k d)).0 (table.each k d on)).1;
    }
      where
        place_of_row : (row : LabelRow) → Contains rows row → IsPlace c (place_of row)
        place_of_row row on =
            exit_place c fit (network_of c) (λ q. q) (network-cells c fit) Begins starts are row ((exit_before c Begins bound row).0 (All-contains (IsExitBefore c Begins bound) rows row table.each on)).0

        closed : IsClosed (network_of c) starts bound (RowOf rows)
        closed = exact_closed (network_of c) starts bound (RowOf rows) (exact_rows bound rows table) (early_row rows)

    -- what a search answers passes
    pub answer_passes : (to : Node) (found : Found) → AnswersArrival c Begins to found → PassesArrival c IsStart (to ∷ []) found
    answer_passes to (Route steps labels) answers =
        table_passes (to ∷ []) (Some (end_of steps)) labels answers.2 (λ others route below. omega (arith, answers.0.earliest others route, below))
    answer_passes to (NoRoute labels) answers = table_passes (to ∷ []) None labels answers.1 (λ others route below. answers.0 others route)
