-- The starts by the rules are the start entries of the cells.
use Rattle.std.proofs.Common.{◌≡◌, ℕ, ◌+◌, ◌<◌, ◌≤◌, IsTrue, IsSomeAnd, eqb, ◌&&◌, Some, sym, ap, subst, arith}
use Rattle.std.proofs.lemmas.Bool.{and_parts, and_from, eq-eqb, eqb-true}
use Rattle.taxi_base.specs.declared.numbers.Node.{Node}
use Rattle.taxi_base.specs.declared.numbers.Arc.{Arc}
use Rattle.taxi_base.specs.declared.rows.Step.{Step}
use Rattle.taxi_base.specs.declared.rows.Span.{Span}
use Rattle.taxi_base.specs.declared.rows.LabelRow.{LabelRow}
use Rattle.taxi_base.specs.Airport.{layout_of, segment_of, seconds, tail, meet}
use Rattle.taxi_base.specs.Windows.{IsWindow, span_has}
use Rattle.taxi_base.specs.Walks.{Conditions, last_of, IsInside, IsFeasibleStep}
use Rattle.taxi_base.specs.Labels.{window_of, seconds_of}
use Rattle.taxi_base.proofs.WindowLaws.{span_has-from, IsWindow-same}
use Rattle.taxi_base.proofs.WalkLaws.{IsInside-last, last_of-by, hold_under-some, IsFeasibleStep-takes}
use Rattle.label_core.specs.Walks.{Start}
use Rattle.label_core.specs.Labels.{IsStartEntry}
use Rattle.walk_labels.specs.Places.{AreFit, Place, IsPlace, is_place, network_of, label_at, place_of}
use Rattle.walk_labels.specs.Requests.Beginning.{at_node, resuming}
use Rattle.walk_labels.specs.Requests.{Beginning, CanBegin, BeginsInTime, starts_at_node, starts_resuming, starts_by}
use Rattle.walk_labels.specs.Rules.{IsStartAtNode, IsStartResuming, IsStartBy}
use Rattle.walk_labels.proofs.CellWalks.{window-by, place_of_step}
use Rattle.walk_labels.proofs.PlaceCells.{is_place-true, network-cells}
use Rattle.walk_labels.proofs.RequestCells.{if_some, if_true, meet-same}
use Rattle.walk_labels.proofs.PickedLabels.{cell_seconds}

-- what a step inside a window enters by is in the window
pub inside-has : (c : Conditions) (w : Span) (s : Step) → s.enter < s.leave → s.leave ≤ c.airport.horizon → IsInside c w s → IsTrue (span_has w s.enter)
inside-has c w s takes in_time inside =
    let some = hold_under-some c s takes in_time in
    span_has-from w s.enter (omega arith) (omega arith)

module _ (c : Conditions) (fit : AreFit c) where
  label_seconds : (label : LabelRow) → IsPlace c (place_of label) → seconds_of c label ≡ (network_of c).seconds (place_of label)
  label_seconds label is = cell_seconds c fit (network_of c) (λ p. p) (network-cells c fit) (place_of label) label.value is

  -- ---- at a node

  module _ (node : Node) (earliest latest : ℕ) where
    pub node_start_known : (p : Place) (t : ℕ) → IsStartEntry (network_of c) (starts_at_node (layout_of c.airport) (is_place c) (λ q. q) node earliest latest) p t → IsStartAtNode c node earliest latest (label_at p t)
    node_start_known p t e =
        let given = if_some (is_place c p && meet (tail (layout_of c.airport) p.arc) (Some node)) (record { earliest = earliest; latest = latest; exit_from = 0 }) e.start e.here in
        let parts = and_parts (is_place c p) (meet (tail (layout_of c.airport) p.arc) (Some node)) given.0 in
        let is : IsPlace c p = (is_place-true c fit p).0 parts.0 in
        let from = (network-cells c fit).from p is in
        let early : earliest ≡ e.start.earliest = ap (λ (s : Start). s.earliest) given.1 in
        let late : latest ≡ e.start.latest = ap (λ (s : Start). s.latest) given.1 in
        let exit : 0 ≡ e.start.exit_from = ap (λ (s : Start). s.exit_from) given.1 in
        record {
          is_place = is;
          leaves = (meet-same (tail (layout_of c.airport) p.arc) node).0 parts.1;
          not_late = omega (arith, e.not_late);
          value = omega (arith, e.value, label_seconds (label_at p t) is);
          in_window = omega (arith, e.in_time, (network-cells c fit).last p is);
        }

    pub node_start_entry : (label : LabelRow) → IsStartAtNode c node earliest latest label
        → IsStartEntry (network_of c) (starts_at_node (layout_of c.airport) (is_place c) (λ q. q) node earliest latest) (place_of label) label.value
    node_start_entry label h =
        let from = (network-cells c fit).from (place_of label) h.is_place in
        record {
          start = record { earliest = earliest; latest = latest; exit_from = 0 };
          here = if_true (is_place c (place_of label) && meet (tail (layout_of c.airport) label.arc) (Some node)) (record { earliest = earliest; latest = latest; exit_from = 0 })
              (and_from (is_place c (place_of label)) (meet (tail (layout_of c.airport) label.arc) (Some node)) ((is_place-true c fit (place_of label)).1 h.is_place) ((meet-same (tail (layout_of c.airport) label.arc) node).1 h.leaves));
          value = omega (arith, h.value, from, label_seconds label h.is_place);
          not_late = omega (arith, h.not_late, from);
          in_time = omega (arith, h.in_window, (network-cells c fit).last (place_of label) h.is_place);
        }

  -- ---- by a step that was begun

  module _ (begun : Step) (exit_from : ℕ) (made : IsFeasibleStep c begun) where
    takes : begun.enter < begun.leave
    takes = IsFeasibleStep-takes c fit.timed begun made

    pub resuming_start_known : (p : Place) (t : ℕ) → IsStartEntry (network_of c) (starts_resuming (is_place c) (λ q. q) begun exit_from) p t → IsStartResuming c begun exit_from (label_at p t)
    resuming_start_known p t e =
        let given = if_some (is_place c p && eqb p.arc.0 begun.arc.0) (record { earliest = begun.enter; latest = begun.enter; exit_from = exit_from }) e.start e.here in
        let parts = and_parts (is_place c p) (eqb p.arc.0 begun.arc.0) given.0 in
        let is : IsPlace c p = (is_place-true c fit p).0 parts.0 in
        let number : p.arc.0 ≡ begun.arc.0 = eqb-true p.arc.0 begun.arc.0 parts.1 in
        let arc : p.arc ≡ begun.arc = λ i. record { 0 = number i } in
        let from = (network-cells c fit).from p is in
        let last = (network-cells c fit).last p is in
        let early : begun.enter ≡ e.start.earliest = ap (λ (s : Start). s.earliest) given.1 in
        let late : begun.enter ≡ e.start.latest = ap (λ (s : Start). s.latest) given.1 in
        let exit : exit_from ≡ e.start.exit_from = ap (λ (s : Start). s.exit_from) given.1 in
        let begins : p.window.from ≤ begun.enter = omega (arith, e.not_late) in
        let n : ℕ = (network_of c).seconds p in
        let known = (network-cells c fit).takes p is in
        let some : 1 ≤ n = fit.timed (segment_of p.arc) n known in
        let by = window-by c fit p is in
        let leaves : t ≤ last_of c p.window = omega (arith, e.in_time) in
        let over : Step = record { arc = begun.arc; enter = begun.enter; leave = t } in
        let over_takes : begun.enter < t = omega (arith, e.value) in
        let over_by : t ≤ c.airport.horizon = omega (arith, last_of-by c p.window by) in
        let inside : IsInside c p.window over = (IsInside-last c p.window over over_takes over_by by).1 (begins, leaves) in
        let around = place_of_step c fit begun made in
        let here : IsWindow (c.free (segment_of begun.arc)) p.window = subst (λ (a : Arc). IsWindow (c.free (segment_of a)) p.window) arc is.window in
        let there : IsWindow (c.free (segment_of begun.arc)) around.0.window = subst (λ (a : Arc). IsWindow (c.free (segment_of a)) around.0.window) (sym around.2) around.1.window in
        let window : around.0.window ≡ p.window = IsWindow-same (c.free (segment_of begun.arc)) around.0.window p.window begun.enter there here
        (inside-has c around.0.window begun takes made.in_time around.3) (inside-has c p.window over over_takes over_by inside) in
        record {
          is_place = is;
          arc = arc;
          window = subst (λ (w : Span). IsInside c w begun) window around.3;
          value = omega (arith, e.value, label_seconds (label_at p t) is);
        }

    pub resuming_start_entry : exit_from ≤ begun.leave → (label : LabelRow) → IsStartResuming c begun exit_from label
        → IsStartEntry (network_of c) (starts_resuming (is_place c) (λ q. q) begun exit_from) (place_of label) label.value
    resuming_start_entry not_over label h =
        let from = (network-cells c fit).from (place_of label) h.is_place in
        let last = (network-cells c fit).last (place_of label) h.is_place in
        let known = (network-cells c fit).takes (place_of label) h.is_place in
        let by = window-by c fit (place_of label) h.is_place in
        let sides = (IsInside-last c (window_of label) begun takes made.in_time by).0 h.window in
        let lasts : IsSomeAnd (seconds c.airport c.class (segment_of label.arc)) (λ n. begun.enter + n ≤ begun.leave) =
        subst (λ (a : Arc). IsSomeAnd (seconds c.airport c.class (segment_of a)) (λ n. begun.enter + n ≤ begun.leave)) (sym h.arc) made.lasts in
        let long : begun.enter + (network_of c).seconds (place_of label) ≤ begun.leave = subst (λ o. IsSomeAnd o (λ n. begun.enter + n ≤ begun.leave)) known lasts in
        record {
          start = record { earliest = begun.enter; latest = begun.enter; exit_from = exit_from };
          here = if_true (is_place c (place_of label) && eqb label.arc.0 begun.arc.0) (record { earliest = begun.enter; latest = begun.enter; exit_from = exit_from })
              (and_from (is_place c (place_of label)) (eqb label.arc.0 begun.arc.0) ((is_place-true c fit (place_of label)).1 h.is_place) (eq-eqb label.arc.0 begun.arc.0 (ap (λ (a : Arc). a.0) h.arc)));
          value = omega (arith, h.value, from, label_seconds label h.is_place, sides.0);
          not_late = omega (arith, from, sides.0);
          in_time = omega (arith, h.value, last, label_seconds label h.is_place, sides.1);
        }

  -- ---- by either

  pub start_known : (b : Beginning) → CanBegin c b → (p : Place) (t : ℕ) → IsStartEntry (network_of c) (starts_by (layout_of c.airport) (is_place c) (λ q. q) b) p t → IsStartBy c b (label_at p t)
  start_known (at_node node earliest latest) can = node_start_known node earliest latest
  start_known (resuming begun exit_from) made = resuming_start_known begun exit_from made

  pub start_entry : (b : Beginning) → CanBegin c b → BeginsInTime b → (label : LabelRow) → IsStartBy c b label
      → IsStartEntry (network_of c) (starts_by (layout_of c.airport) (is_place c) (λ q. q) b) (place_of label) label.value
  start_entry (at_node node earliest latest) can in_time = node_start_entry node earliest latest
  start_entry (resuming begun exit_from) made in_time = resuming_start_entry begun exit_from made in_time
