-- For departures: a table that passes the rules leaves no walk out, and the table of all labels passes them.
use Rattle.std.proofs.Common.{◌≡◌, ℕ, ◌≤◌, max, Bool, ◌&&◌, leb, eqb, List, [], ◌∷◌, get_or, inl, inr, ◌⊎◌, IsTrue, Option, Some, None, refl, sym, ap, subst, arith, ◌↔◌}
use Rattle.std.specs.Prelude.{AllPairs, Contains}
use Rattle.std.specs.List.{list_any}
use Rattle.std.proofs.lemmas.Bool.{and_parts, and_from, le-leb, leb-true, eq-eqb, eqb-true, both_ways, cases_Bool, cases_lt, cond_both}
use Rattle.std.proofs.lemmas.List.{get_or_default}
use Rattle.std.proofs.lemmas.List.Elements.{All-contains}
use Rattle.taxi_base.specs.declared.numbers.Node.{Node}
use Rattle.taxi_base.specs.declared.numbers.Arc.{Arc}
use Rattle.taxi_base.specs.declared.rows.Step.{Step}
use Rattle.taxi_base.specs.declared.rows.LabelRow.{LabelRow}
use Rattle.taxi_base.specs.Airport.{layout_of, tail}
use Rattle.taxi_base.specs.Walks.{Conditions, last_of, IsRoute, AtFirst, LeavesNode, begin_of}
use Rattle.taxi_base.specs.Labels.{IsStepOf, precedes, IsTable, IsEntryAfter}
use Rattle.taxi_base.proofs.ListLaws.{list_any-true, list_any-member, Contains-cons_cases}
use Rattle.taxi_base.proofs.WalkLaws.{last_of-by}
use Rattle.label_core.specs.BackwardWalks.{Finish, Leads, IsLatestEntry}
use Rattle.label_core.specs.BackwardLabels.{IsFinishEntry, IsExpansionBack}
use Rattle.label_core.specs.BackwardTables.{IsAbove, HasAsLate as HasCellAsLate, IsClosedBack}
use Rattle.label_core.specs.Mirror.{IsUpTo}
use Rattle.label_core.proofs.ExactEntries.{exact_closed_back, row_latest, latest_row}
use Rattle.label_core.proofs.MirroredTables.{closed_back_covers}
use Rattle.walk_labels.specs.Places.{AreFit, Place, IsPlace, is_place, network_of, label_at, place_of}
use Rattle.walk_labels.specs.Requests.{leads_to_one_of, AreFinishes, finishes_at, sources_at_node}
use Rattle.walk_labels.specs.BackwardRules.{IsFinishAt, IsPrevious, HasAsLate, PassesBackward}
use Rattle.walk_labels.proofs.CellWalks.{window-by}
use Rattle.walk_labels.proofs.CellLabels.{entry_label, entry_of_cell, entry_place, source_by_route, cell_led_by_route}
use Rattle.walk_labels.proofs.PlaceCells.{seconds_at-takes, is_place-true, network-cells}
use Rattle.walk_labels.proofs.RequestCells.{if_some, if_true, meet-same, leads-OneOf, sources_at_node-are}
use Rattle.walk_labels.proofs.PickedLabels.{cell_seconds}
use Rattle.walk_labels.proofs.LabelTables.{entry_after, entry_table}
use Rattle.walk_labels.proofs.CheckedTables.{RowOf, one_row}

-- ---- whether a row is as late

is_late : Place → ℕ → LabelRow → Bool
is_late p t row = eqb row.arc.0 p.arc.0 && (eqb row.from p.window.from && (eqb row.until p.window.until && leb t row.value))

pub late_row : (rows : List LabelRow) (p : Place) (t : ℕ) → HasCellAsLate (RowOf rows) p t ⊎ (HasCellAsLate (RowOf rows) p t → ⊥)
unfolding is_late
late_row rows p t =
    elim (cases_Bool (list_any (is_late p t) rows)) [
      | inl some ↦
          let found = list_any-true (is_late p t) rows some in
          let arc = and_parts (eqb found.0.arc.0 p.arc.0) (eqb found.0.from p.window.from && (eqb found.0.until p.window.until && leb t found.0.value)) found.2 in
          let from = and_parts (eqb found.0.from p.window.from) (eqb found.0.until p.window.until && leb t found.0.value) arc.1 in
          let until = and_parts (eqb found.0.until p.window.until) (leb t found.0.value) from.1 in
          let arc_e : found.0.arc.0 ≡ p.arc.0 = eqb-true found.0.arc.0 p.arc.0 arc.0 in
          let from_e : found.0.from ≡ p.window.from = eqb-true found.0.from p.window.from from.0 in
          let until_e : found.0.until ≡ p.window.until = eqb-true found.0.until p.window.until until.0 in
          let same : found.0 ≡ label_at p found.0.value = λ i. record { arc = record { 0 = arc_e i }; from = from_e i; until = until_e i; value = found.0.value } in
          inl (found.0.value, subst (Contains rows) same found.1, leb-true t found.0.value until.1)
      | inr none ↦ inr (λ has.
          both_ways (list_any (is_late p t) rows) none
          (list_any-member (is_late p t) rows (label_at p has.0) has.1
          (and_from (eqb p.arc.0 p.arc.0) (eqb p.window.from p.window.from && (eqb p.window.until p.window.until && leb t has.0)) (eq-eqb p.arc.0 p.arc.0 refl)
          (and_from (eqb p.window.from p.window.from) (eqb p.window.until p.window.until && leb t has.0) (eq-eqb p.window.from p.window.from refl)
          (and_from (eqb p.window.until p.window.until) (leb t has.0) (eq-eqb p.window.until p.window.until refl) (le-leb t has.0 has.2))))))
    ]

-- ---- a second that no time passes

greatest : List LabelRow → ℕ
greatest [] = 0
greatest (row ∷ rows) = max row.value (greatest rows)

greatest-by : (rows : List LabelRow) (row : LabelRow) → Contains rows row → row.value ≤ greatest rows
unfolding greatest
greatest-by [] row h = absurd (omega (arith, h.1))
greatest-by (r ∷ rows) row h =
    elim (Contains-cons_cases r row rows h) [
      | inl e ↦ let same : r.value ≡ row.value = ap (λ (l : LabelRow). l.value) e in omega arith
      | inr later ↦ omega (arith, greatest-by rows row later)
    ]

-- the finishes are by a second
abbrev pub AreBy : {C : Type 0} → ℕ → (C → Option Finish) → Type 0
AreBy {C} stop finishes = (x : C) (f : Finish) → finishes x ≡ Some f → f.earliest_out ≤ stop

module _ (c : Conditions) (fit : AreFit c) where
  from_by : (p : Place) → (network_of c).from p ≤ c.airport.horizon
  from_by p = cond_both (is_place c p) p.window.from 0 (λ n. n ≤ c.airport.horizon)
      (λ h. (let is = (is_place-true c fit p).0 h in omega (arith, window-by c fit p is, is.window.some))) (λ _. omega arith)

  last_by : (p : Place) → (network_of c).last p ≤ c.airport.horizon
  last_by p = cond_both (is_place c p) (last_of c p.window) 0 (λ n. n ≤ c.airport.horizon)
      (λ h. last_of-by c p.window (window-by c fit p ((is_place-true c fit p).0 h))) (λ _. omega arith)

  up_to : (finishes : Place → Option Finish) (stop : ℕ) → AreBy stop finishes → (k : ℕ) → c.airport.horizon ≤ k → stop ≤ k → IsUpTo k (network_of c) finishes
  up_to finishes stop by k horizon_by stop_by = record {
    windows_from = λ p. omega (arith, from_by p);
    windows_last = λ p. omega (arith, last_by p);
    finishes_by = λ p f e. omega (arith, by p f e);
  }

module _ (c : Conditions) (fit : AreFit c) (Ends : Step → Type 0) (finishes : Place → Option Finish) (are : AreFinishes c (network_of c) (λ p. p) Ends finishes)
    (stop : ℕ) (finishes_by : AreBy stop finishes) (IsFinish : LabelRow → Type 0) where
  -- ---- expansions and previous labels

  previous_of : (q p : Place) (v t : ℕ) → IsExpansionBack (network_of c) q v p t → IsPrevious c (label_at q v) (label_at p t)
  previous_of q p v t e =
      let cells = network-cells c fit in
      let turn = (cells.turn p q).0 e.by_turn in
      record {
        is_place = turn.0;
        permitted = turn.2;
        already_held = omega (arith, e.already_held, cells.from q turn.1, cells.last p turn.0);
        value = omega (arith, e.value, cells.last p turn.0, cell_seconds c fit (network_of c) (λ r. r) cells p t turn.0);
        in_window = omega (arith, e.in_window, cells.from p turn.0);
      }

  expansion_of : (q : Place) (v : ℕ) (previous : LabelRow) → IsPlace c q → IsPrevious c (label_at q v) previous → IsExpansionBack (network_of c) q v (place_of previous) previous.value
  expansion_of q v previous is n =
      let cells = network-cells c fit in
      record {
        by_turn = (cells.turn (place_of previous) q).1 (n.is_place, is, n.permitted);
        value = omega (arith, n.value, cells.last (place_of previous) n.is_place, cell_seconds c fit (network_of c) (λ r. r) cells (place_of previous) previous.value n.is_place);
        already_held = omega (arith, n.already_held, cells.from q is, cells.last (place_of previous) n.is_place);
        in_window = omega (arith, n.in_window, cells.from (place_of previous) n.is_place);
      }

  takes : (p : Place) → 1 ≤ (network_of c).seconds p
  takes p = seconds_at-takes c fit p.arc

  limit : List LabelRow → ℕ
  limit rows = max (max c.airport.horizon stop) (greatest rows)

  fits : (rows : List LabelRow) → IsUpTo (limit rows) (network_of c) finishes
  unfolding limit
  fits rows = up_to c fit finishes stop finishes_by (limit rows) (omega arith) (omega arith)

  rows_by : (rows : List LabelRow) (p : Place) (v : ℕ) → RowOf rows p v → v ≤ limit rows
  unfolding limit
  rows_by rows p v row = omega (arith, greatest-by rows (label_at p v) row)

  -- ---- what passes leaves no walk out

  module _ (finish_known : (p : Place) (t : ℕ) → IsFinishEntry (network_of c) finishes p t → IsFinish (label_at p t)) where
    pub closed_cells : (bound : Option ℕ) (rows : List LabelRow) → ((label : LabelRow) → IsFinish label → IsAbove bound label.value → HasAsLate rows label)
        → ((row previous : LabelRow) → Contains rows row → IsPrevious c row previous → IsAbove bound previous.value → HasAsLate rows previous) → IsClosedBack (network_of c) finishes bound (RowOf rows)
    closed_cells bound rows finishes_in previous_in = record {
      finishes_in = λ p t e above. finishes_in (label_at p t) (finish_known p t e) above;
      expansions_in = λ q p v t row e above. previous_in (label_at q v) (label_at p t) row (previous_of q p v t e) above;
    }

    -- rows that are attained and leave none out are the table of all labels above the bound
    pub closed_is_table : (bound : Option ℕ) (rows : List LabelRow) → AllPairs (λ p q. IsTrue (precedes p q)) rows
        → ((row : LabelRow) → Contains rows row → IsPlace c (place_of row) × ((steps : List Step) × IsRoute c (IsStepOf c row) Ends steps × (begin_of steps ≡ row.value)) × IsAbove bound row.value)
        → ((label : LabelRow) → IsFinish label → IsAbove bound label.value → HasAsLate rows label)
        → ((row previous : LabelRow) → Contains rows row → IsPrevious c row previous → IsAbove bound previous.value → HasAsLate rows previous) → IsTable (IsEntryAfter c Ends bound) rows
    closed_is_table bound rows ordered each finishes_in previous_in =
        entry_table c fit (network_of c) (λ p. p) (network-cells c fit) bound (RowOf rows) rows ordered (λ row on. (place_of row, refl, on)) (λ p v row. row) Ends finishes are
        (λ p v. (
          λ row. (
              let h = each (label_at p v) row in
              (row_latest (network_of c) finishes (limit rows) (fits rows) bound (RowOf rows) (rows_by rows) takes closed led (one_row rows ordered) p v row h.2, h.2)),
          λ h. latest_row (network_of c) finishes (limit rows) (fits rows) bound (RowOf rows) (rows_by rows) takes closed led p v h.0 h.1,
        ))
      where
        closed : IsClosedBack (network_of c) finishes bound (RowOf rows)
        closed = closed_cells bound rows finishes_in previous_in

        led : (p : Place) (v : ℕ) → RowOf rows p v → Leads (network_of c) finishes p v
        led p v row =
            let h = each (label_at p v) row in
            subst (Leads (network_of c) finishes p) h.1.2 (cell_led_by_route c fit (network_of c) (λ q. q) (network-cells c fit) Ends finishes are p v h.1.0 h.0 h.1.1)

    covered : (bound : Option ℕ) (rows : List LabelRow) (from : Node) → PassesBackward c IsFinish from bound rows
        → (steps : List Step) → IsRoute c (LeavesNode (layout_of c.airport) from) Ends steps → IsAbove bound (begin_of steps) → ⊥
    covered bound rows from passes steps route above =
        let x = source_by_route c fit (network_of c) (λ p. p) (network-cells c fit) Ends finishes are from (sources_at_node (layout_of c.airport) (λ q. q) from) (sources_at_node-are c (λ q. q) from) steps route in
        let row = closed_back_covers (network_of c) finishes (limit rows) (fits rows) bound (RowOf rows) (rows_by rows) takes (closed_cells bound rows passes.finishes_in passes.previous_in) x.0 (begin_of steps) x.2 above in
        All-contains (λ r. tail (layout_of c.airport) r.arc ≡ Some from → ⊥) rows (label_at x.0 row.0) passes.none_leaves row.1 ((meet-same (tail (layout_of c.airport) x.0.arc) from).0 x.1)

    -- no walk from the node begins after the bound
    pub passed_none_later : (from : Node) (start : ℕ) (rows : List LabelRow) → PassesBackward c IsFinish from (Some start) rows
        → (steps : List Step) → IsRoute c (LeavesNode (layout_of c.airport) from) Ends steps → begin_of steps ≤ start
    passed_none_later from start rows passes steps route =
        elim (cases_lt start (begin_of steps)) [
          | inl later ↦ absurd (covered (Some start) rows from passes steps route later)
          | inr le ↦ le
        ]

    -- with no bound, there is none
    pub passed_none_at_all : (from : Node) (rows : List LabelRow) → PassesBackward c IsFinish from None rows
        → (steps : List Step) → IsRoute c (LeavesNode (layout_of c.airport) from) Ends steps → ⊥
    passed_none_at_all from rows passes steps route = covered None rows from passes steps route tt

  -- ---- the table of all labels passes

  module _ (finish_entry : (label : LabelRow) → IsFinish label → IsFinishEntry (network_of c) finishes (place_of label) label.value) where
    exact_rows : (bound : Option ℕ) (rows : List LabelRow) → IsTable (IsEntryAfter c Ends bound) rows
        → (p : Place) (v : ℕ) → RowOf rows p v ↔ (IsLatestEntry (network_of c) finishes p v × IsAbove bound v)
    exact_rows bound rows table p v = (
      λ row. (
          let h = (entry_after c Ends bound (label_at p v)).0 (All-contains (IsEntryAfter c Ends bound) rows (label_at p v) table.each row) in
          let is = entry_place c fit (network_of c) (λ q. q) (network-cells c fit) Ends finishes are (label_at p v) h.0 in
          (entry_of_cell c fit (network_of c) (λ q. q) (network-cells c fit) Ends finishes are p v is h.0, h.1)),
      λ h. table.whole (label_at p v) ((entry_after c Ends bound (label_at p v)).1 ((entry_label c fit (network_of c) (λ q. q) (network-cells c fit) Ends finishes are p v h.0).1, h.1)),
    )

    AtFirst-weaker : (P Q : Step → Type 0) → ((s : Step) → P s → Q s) → (steps : List Step) → AtFirst P steps → AtFirst Q steps
    AtFirst-weaker P Q weaker [] h = h
    AtFirst-weaker P Q weaker (s ∷ steps) h = weaker s h

    pub table_passes : (from : Node) (bound : Option ℕ) (rows : List LabelRow) → IsTable (IsEntryAfter c Ends bound) rows
        → ((steps : List Step) → IsRoute c (LeavesNode (layout_of c.airport) from) Ends steps → IsAbove bound (begin_of steps) → ⊥) → PassesBackward c IsFinish from bound rows
    table_passes from bound rows table none = record {
      ordered = table.ordered;
      at_places = λ k d on. place_of_row (get_or rows k d) (k, on, get_or_default rows k (get_or rows k d) d on);
      finishes_in = λ label is above. closed.finishes_in (place_of label) label.value (finish_entry label is) above;
      previous_in = λ row previous on n above. closed.expansions_in (place_of row) (place_of previous) row.value previous.value on (expansion_of (place_of row) row.value previous (place_of_row row on) n) above;
      none_leaves = λ k d on leaves. (
          let row : LabelRow = get_or rows k d in
          let h = (entry_after c Ends bound row).0 (table.each k d on) in
          let route = h.0.value.1.one in
          let begins : AtFirst (LeavesNode (layout_of c.airport) from) h.0.value.0 =
          AtFirst-weaker (IsStepOf c row) (LeavesNode (layout_of c.airport) from) (λ l of_row. subst (λ (a : Arc). tail (layout_of c.airport) a ≡ Some from) (sym of_row.0) leaves) h.0.value.0 route.begins in
          none h.0.value.0 (record { walk = route.walk; begins = begins; ends = route.ends }) (subst (IsAbove bound) (sym h.0.value.2) h.1));
      short = λ k d on. ((entry_after c Ends bound (get_or rows k d)).0 (table.each k d on)).1;
    }
      where
        place_of_row : (row : LabelRow) → Contains rows row → IsPlace c (place_of row)
        place_of_row row on =
            entry_place c fit (network_of c) (λ q. q) (network-cells c fit) Ends finishes are row ((entry_after c Ends bound row).0 (All-contains (IsEntryAfter c Ends bound) rows row table.each on)).0

        closed : IsClosedBack (network_of c) finishes bound (RowOf rows)
        closed = exact_closed_back (network_of c) finishes (limit rows) (fits rows) bound (RowOf rows) (rows_by rows) (exact_rows bound rows table) (late_row rows)

-- ---- finishes at one of the nodes

module _ (c : Conditions) (fit : AreFit c) (nodes : List Node) (earliest latest : ℕ) where
  pub nodes_finishes_by : AreBy earliest (finishes_at (layout_of c.airport) (is_place c) (λ (q : Place). q) nodes earliest latest)
  nodes_finishes_by p f e =
      let given = if_some (is_place c p && leads_to_one_of (layout_of c.airport) nodes p.arc) (record { earliest_out = earliest; latest_out = latest }) f e in
      let same : earliest ≡ f.earliest_out = ap (λ (x : Finish). x.earliest_out) given.1 in
      omega arith

  pub nodes_finish_known : (p : Place) (t : ℕ) → IsFinishEntry (network_of c) (finishes_at (layout_of c.airport) (is_place c) (λ q. q) nodes earliest latest) p t → IsFinishAt c nodes earliest latest (label_at p t)
  nodes_finish_known p t e =
      let given = if_some (is_place c p && leads_to_one_of (layout_of c.airport) nodes p.arc) (record { earliest_out = earliest; latest_out = latest }) e.finish e.here in
      let parts = and_parts (is_place c p) (leads_to_one_of (layout_of c.airport) nodes p.arc) given.0 in
      let is : IsPlace c p = (is_place-true c fit p).0 parts.0 in
      let last = (network-cells c fit).last p is in
      let early : earliest ≡ e.finish.earliest_out = ap (λ (x : Finish). x.earliest_out) given.1 in
      let late : latest ≡ e.finish.latest_out = ap (λ (x : Finish). x.latest_out) given.1 in
      record {
        is_place = is;
        reaches = (leads-OneOf (layout_of c.airport) nodes p.arc).0 parts.1;
        not_early = omega (arith, e.not_early);
        value = omega (arith, e.value, cell_seconds c fit (network_of c) (λ r. r) (network-cells c fit) p t is);
        in_window = omega (arith, e.in_window, (network-cells c fit).from p is);
      }

  pub nodes_finish_entry : (label : LabelRow) → IsFinishAt c nodes earliest latest label
      → IsFinishEntry (network_of c) (finishes_at (layout_of c.airport) (is_place c) (λ q. q) nodes earliest latest) (place_of label) label.value
  nodes_finish_entry label h =
      let last = (network-cells c fit).last (place_of label) h.is_place in
      record {
        finish = record { earliest_out = earliest; latest_out = latest };
        here = if_true (is_place c (place_of label) && leads_to_one_of (layout_of c.airport) nodes label.arc) (record { earliest_out = earliest; latest_out = latest })
            (and_from (is_place c (place_of label)) (leads_to_one_of (layout_of c.airport) nodes label.arc) ((is_place-true c fit (place_of label)).1 h.is_place) ((leads-OneOf (layout_of c.airport) nodes label.arc).1 h.reaches));
        value = omega (arith, h.value, last, cell_seconds c fit (network_of c) (λ r. r) (network-cells c fit) (place_of label) label.value h.is_place);
        not_early = omega (arith, h.not_early, last);
        in_window = omega (arith, h.in_window, (network-cells c fit).from (place_of label) h.is_place);
      }
