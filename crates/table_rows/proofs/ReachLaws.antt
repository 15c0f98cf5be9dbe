-- It is enough to go through the windows of an arc that can be reached in time.
use Rattle.std.proofs.Common.{◌≡◌, ◌↔◌, ℕ, ◌+◌, ◌≤◌, max, Option, Some, None, List, All, Bool, inl, inr, is_some, unwrap_or, IsTrue, refl, sym, ◌∙◌, ap, subst, arith}
use Rattle.std.specs.Prelude.{Contains, ◌==◌, ◌-◌}
use Rattle.std.proofs.lemmas.Bool.{cond_both, eqb-true, cases_lt, both_ways}
use Rattle.std.proofs.lemmas.List.Elements.{All-contains}
use Rattle.taxi_base.specs.declared.numbers.Arc.{Arc}
use Rattle.taxi_base.specs.declared.rows.Span.{Span}
use Rattle.taxi_base.specs.declared.rows.Step.{Step}
use Rattle.taxi_base.specs.declared.rows.LabelRow.{LabelRow}
use Rattle.taxi_base.specs.Airport.{layout_of, arc_exists, segment_of, seconds}
use Rattle.taxi_base.specs.Windows.{AreWindows, IsWindow}
use Rattle.taxi_base.specs.Walks.{Conditions, last_of, IsInside}
use Rattle.taxi_base.specs.Labels.{window_of, seconds_of}
use Rattle.taxi_base.proofs.WindowLaws.{AreWindows-whole, AreWindows-member, IsWindow-same, span_has-from}
use Rattle.walk_labels.specs.Places.{IsPlace, place_of}
use Rattle.walk_labels.specs.Rules.{IsStartResuming}
use Rattle.table_rows.specs.declared.reach.Way.{Way}
use Rattle.table_rows.specs.declared.reach.Way.TheVariants.{Forward, Backward}
use Rattle.table_rows.specs.declared.reach.Reach.{Reach}
use Rattle.table_rows.specs.HasRows.{HasEach}
use Rattle.table_rows.specs.Reached.{until_bound, short_part, IsReachedBy, IsReachedAt, IsValueIn, label_in, IsReachedIn, IsAround}
use Rattle.table_rows.proofs.EachLaws.{each-by_parts}

-- no step inside a window leaves behind its end
last_of-until : (c : Conditions) (w : Span) → last_of c w ≤ w.until
last_of-until c w =
    cond_both (w.until == c.airport.horizon) c.airport.horizon (w.until - c.clearance) (λ n. n ≤ w.until)
    (λ at_end. let e : w.until ≡ c.airport.horizon = eqb-true w.until c.airport.horizon at_end in omega arith) (λ _. omega arith)

-- ---- a label that is reached has its value in its window, and the other way round

module _ (c : Conditions) (from by n : ℕ) (label : LabelRow) (takes : seconds_of c label ≡ n) where
  value-of_reached : (way : Way) → IsReachedBy way c from by label → IsPlace c (place_of label) × IsValueIn way c from by n (window_of label) label.value
  value-of_reached Forward reached = (reached.is_place, (reached.in_time, reached.value ∙ ap (λ m. max from label.from + m) takes, reached.in_window))
  value-of_reached Backward reached = (reached.is_place, (reached.in_time, ap (λ m. label.value + m) (sym takes) ∙ reached.value, reached.in_window))

  reached-of_value : (way : Way) → IsPlace c (place_of label) → IsValueIn way c from by n (window_of label) label.value → IsReachedBy way c from by label
  reached-of_value Forward is value = record { is_place = is; in_time = value.0; value = value.1 ∙ ap (λ m. max from label.from + m) (sym takes); in_window = value.2 }
  reached-of_value Backward is value = record { is_place = is; in_time = value.0; value = ap (λ m. label.value + m) takes ∙ value.1; in_window = value.2 }

-- windows that end too early, or begin too late, have no value
pub value-near : (way : Way) (c : Conditions) (from by n : ℕ) (w : Span) (v : ℕ) → IsValueIn way c from by n w v → (from ≤ w.until) × (w.from ≤ by)
value-near Forward c from by n w v value = (omega (arith, value.0, value.1, value.2, last_of-until c w), omega (arith, value.0))
value-near Backward c from by n w v value = (omega (arith, value.0, last_of-until c w), omega (arith, value.1, value.2))

-- windows that each touch a stretch, of which the one holds it whole, are the same
touching-same : (free : ℕ → Bool) (v w : Span) (low high : ℕ) → IsWindow free v → IsWindow free w → v.from ≤ low → high ≤ v.until → low ≤ w.until → w.from ≤ high → w ≡ v
touching-same free v w low high a b begins ends late early =
    elim (cases_lt w.from v.until) [
      | inl before ↦ elim (cases_lt v.from w.until) [
        | inl behind ↦
            let t = max v.from w.from in
            sym (IsWindow-same free v w t a b (span_has-from v t (omega arith) (omega (arith, a.some))) (span_has-from w t (omega arith) (omega (arith, b.some))))
        | inr over ↦ (let e : w.until ≡ v.from = omega arith in absurd (both_ways _ b.after (subst (λ t. IsTrue (free t)) (sym e) (a.all v.from (omega arith) a.some))))
      ]
      | inr beyond ↦ (let e : v.until ≡ w.from = omega arith in absurd (both_ways _ a.after (subst (λ t. IsTrue (free t)) (sym e) (b.all w.from (omega arith) b.some))))
    ]

-- ---- the labels of an arc by its windows

module _ (c : Conditions) (arc : Arc) (n : ℕ) (takes : seconds c.airport c.class (segment_of arc) ≡ Some n) where
  seconds-are : (label : LabelRow) → label.arc ≡ arc → seconds_of c label ≡ n
  seconds-are label e = ap (λ (a : Arc). unwrap_or (seconds c.airport c.class (segment_of a)) 0) e ∙ ap (λ (o : Option ℕ). unwrap_or o 0) takes

  at_arc : (label : LabelRow) → label.arc ≡ arc → label ≡ label_in arc (window_of label) label.value
  at_arc label e = λ i. record { arc = e i; from = label.from; until = label.until; value = label.value }

  -- a label in a window that is a place
  reached-in : (reach : Reach) (w : Span) (label : LabelRow) → IsPlace c (record { arc = arc; window = w }) → IsReachedIn c reach arc n w label → IsReachedAt c reach arc label
  reached-in reach w label is reached =
      let here : IsPlace c (place_of label) = subst (λ (l : LabelRow). IsPlace c (place_of l)) (sym reached.is) is in
      let at : label.arc ≡ arc = ap (λ (l : LabelRow). l.arc) reached.is in
      let window : window_of label ≡ w = ap (λ (l : LabelRow). window_of l) reached.is in (
        at,
        reached-of_value c reach.from reach.by n label (seconds-are label at) reach.way here
            (subst (λ (v : Span). IsValueIn reach.way c reach.from reach.by n v label.value) (sym window) reached.value),
      )

  -- where the window of a row holds the whole reach, it is enough to look at that row
  pub arc-by_row : (reach : Reach) (bound : Option ℕ) (rows : List LabelRow) (row : LabelRow) → row.arc ≡ arc → row.from ≤ reach.from → reach.by ≤ row.until → IsPlace c (place_of row)
      → HasEach reach.way (IsReachedIn c reach arc n (window_of row)) bound rows ↔ HasEach reach.way (IsReachedAt c reach arc) bound rows
  arc-by_row reach bound rows row on begins ends is = (
    λ each label at short. each label (here label at) short,
    λ each label reached short. each label (reached-in reach (window_of row) label (subst (λ (a : Arc). IsPlace c (record { arc = a; window = window_of row })) on is) reached) short,
  ) where
    here : (label : LabelRow) → IsReachedAt c reach arc label → IsReachedIn c reach arc n (window_of row) label
    here label at =
        let value = value-of_reached c reach.from reach.by n label (seconds-are label at.0) reach.way at.1 in
        let near = value-near reach.way c reach.from reach.by n (window_of label) label.value value.1 in
        let window : IsWindow (c.free (segment_of arc)) (window_of label) = subst (λ (a : Arc). IsWindow (c.free (segment_of a)) (window_of label)) at.0 value.0.window in
        let of_row : IsWindow (c.free (segment_of arc)) (window_of row) = subst (λ (a : Arc). IsWindow (c.free (segment_of a)) (window_of row)) on is.window in
        let same : window_of label ≡ window_of row = touching-same (c.free (segment_of arc)) (window_of row) (window_of label) reach.from reach.by of_row window begins ends near.0 near.1 in
        record {
          is = subst (λ (w : Span). label ≡ label_in arc w label.value) same (at_arc label at.0);
          value = subst (λ (w : Span). IsValueIn reach.way c reach.from reach.by n w label.value) same value.1;
        }

module _ (c : Conditions) (arc : Arc) (n : ℕ) (takes : seconds c.airport c.class (segment_of arc) ≡ Some n) (exists : IsTrue (arc_exists (layout_of c.airport) arc))
    (windows : List Span) (are : AreWindows (c.free (segment_of arc)) windows) where
  place-at : (w : Span) → Contains windows w → IsPlace c (record { arc = arc; window = w })
  place-at w on = record {
    on_arc = exists;
    timed = subst (λ (o : Option ℕ). IsTrue (is_some o)) (sym takes) refl;
    window = AreWindows-member (c.free (segment_of arc)) windows w are on;
  }

  place-listed : (label : LabelRow) → label.arc ≡ arc → IsPlace c (place_of label) → Contains windows (window_of label)
  place-listed label e is = AreWindows-whole (c.free (segment_of arc)) windows (window_of label) are (subst (λ (a : Arc). IsWindow (c.free (segment_of a)) (window_of label)) e is.window)

  module _ (reach : Reach) (bound : Option ℕ) (rows : List LabelRow) (near : List Span) (within : All (Contains windows) near) (whole : All (λ w. reach.from ≤ w.until → w.from ≤ reach.by → Contains near w) windows) where
    part : (label : LabelRow) → IsReachedAt c reach arc label → (w : Span) × Contains near w × IsReachedIn c reach arc n w label
    part label at =
        let value = value-of_reached c reach.from reach.by n label (seconds-are c arc n takes label at.0) reach.way at.1 in
        let ends = value-near reach.way c reach.from reach.by n (window_of label) label.value value.1 in (
          window_of label,
          All-contains (λ w. reach.from ≤ w.until → w.from ≤ reach.by → Contains near w) windows (window_of label) whole (place-listed label at.0 value.0) ends.0 ends.1,
          record { is = at_arc c arc n takes label at.0; value = value.1 },
        )

    one : (w : Span) (label : LabelRow) → Contains near w → IsReachedIn c reach arc n w label → IsReachedAt c reach arc label
    one w label on reached = reached-in c arc n takes reach w label (place-at w (All-contains (Contains windows) near w within on)) reached

    pub arc-by_windows : All (λ w. HasEach reach.way (IsReachedIn c reach arc n w) bound rows) near ↔ HasEach reach.way (IsReachedAt c reach arc) bound rows
    arc-by_windows = each-by_parts reach.way bound rows near (IsReachedIn c reach arc n) (IsReachedAt c reach arc) part one

-- ---- the labels that are short of a bound are reached in a part of a reach

pub each-short : (c : Conditions) (arc : Arc) (reach : Reach) (bound : Option ℕ) (rows : List LabelRow)
    → HasEach (short_part bound reach).way (IsReachedAt c (short_part bound reach) arc) bound rows ↔ HasEach reach.way (IsReachedAt c reach arc) bound rows
each-short c arc reach None rows = (λ each. each, λ each. each)
each-short c arc reach (Some bound) rows = go reach.way reach.from reach.by where
  go : (way : Way) (from by : ℕ)
      → HasEach (until_bound way bound (record { way = way; from = from; by = by })).way (IsReachedAt c (until_bound way bound (record { way = way; from = from; by = by })) arc) (Some bound) rows
      ↔ HasEach way (IsReachedAt c (record { way = way; from = from; by = by }) arc) (Some bound) rows
  go Forward from by = (
    λ each label at short. each label (at.0, record { is_place = at.1.is_place; in_time = omega (arith, at.1.in_time, at.1.value, short); value = at.1.value; in_window = at.1.in_window }) short,
    λ each label at short. each label (at.0, record { is_place = at.1.is_place; in_time = omega (arith, at.1.in_time); value = at.1.value; in_window = at.1.in_window }) short,
  )
  go Backward from by = (
    λ each label at short. each label (at.0, record { is_place = at.1.is_place; in_time = omega (arith, at.1.in_time, at.1.value, short); value = at.1.value; in_window = at.1.in_window }) short,
    λ each label at short. each label (at.0, record { is_place = at.1.is_place; in_time = omega (arith, at.1.in_time); value = at.1.value; in_window = at.1.in_window }) short,
  )

-- ---- a step that was begun, by the windows of its segment

module _ (c : Conditions) (begun : Step) (n : ℕ) (takes : seconds c.airport c.class (segment_of begun.arc) ≡ Some n) (exists : IsTrue (arc_exists (layout_of c.airport) begun.arc))
    (windows : List Span) (are : AreWindows (c.free (segment_of begun.arc)) windows) (bound : Option ℕ) (rows : List LabelRow) (exit_from value : ℕ) (is : value ≡ max exit_from (begun.enter + n)) where
  value-of : (label : LabelRow) → label.arc ≡ begun.arc → max exit_from (begun.enter + seconds_of c label) ≡ value
  value-of label e = ap (λ k. max exit_from (begun.enter + k)) (seconds-are c begun.arc n takes label e) ∙ sym is

  part_around : (label : LabelRow) → IsStartResuming c begun exit_from label → (w : Span) × Contains windows w × IsAround c begun value w label
  part_around label start =
      let e : label.value ≡ value = start.value ∙ value-of label start.arc in (
        window_of label,
        place-listed c begun.arc n takes exists windows are label start.arc start.is_place,
        record { is = λ i. record { arc = start.arc i; from = label.from; until = label.until; value = e i }; inside = start.window },
      )

  one_around : (w : Span) (label : LabelRow) → Contains windows w → IsAround c begun value w label → IsStartResuming c begun exit_from label
  one_around w label on around =
      let at : label.arc ≡ begun.arc = ap (λ (l : LabelRow). l.arc) around.is in
      let window : window_of label ≡ w = ap (λ (l : LabelRow). window_of l) around.is in
      record {
        is_place = subst (λ (l : LabelRow). IsPlace c (place_of l)) (sym around.is) (place-at c begun.arc n takes exists windows are w on);
        arc = at;
        window = subst (λ (v : Span). IsInside c v begun) (sym window) around.inside;
        value = ap (λ (l : LabelRow). l.value) around.is ∙ sym (value-of label at);
      }

  pub begun-by_windows : All (λ w. HasEach Forward (IsAround c begun value w) bound rows) windows ↔ HasEach Forward (IsStartResuming c begun exit_from) bound rows
  begun-by_windows = each-by_parts Forward bound rows windows (IsAround c begun value) (IsStartResuming c begun exit_from) part_around one_around
