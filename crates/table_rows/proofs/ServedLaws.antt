-- What is reached in a stretch has a row where all that is reached in a wider one has.
use Rattle.std.proofs.Common.{◌≡◌, ℕ, ◌+◌, ◌<◌, ◌≤◌, max, min, Option, Some, None, List, length, get_or, All, IsTrue, refl, sym, ◌∙◌, ap, subst, arith}
use Rattle.std.specs.Prelude.{◌-◌, slice_get, Contains}
use Rattle.std.proofs.lemmas.Option.{slice_get-get_or}
use Rattle.taxi_base.specs.declared.numbers.Arc.{Arc}
use Rattle.taxi_base.specs.declared.rows.Span.{Span}
use Rattle.taxi_base.specs.declared.rows.LabelRow.{LabelRow}
use Rattle.taxi_base.specs.Airport.{layout_of, arc_exists, segment_of, seconds}
use Rattle.taxi_base.specs.Windows.{AreWindows}
use Rattle.taxi_base.specs.Walks.{Conditions, last_of}
use Rattle.taxi_base.specs.Labels.{window_of, seconds_of}
use Rattle.label_core.specs.Tables.{IsBelow}
use Rattle.label_core.specs.BackwardTables.{IsAbove}
use Rattle.table_rows.specs.declared.reach.Way.{Way}
use Rattle.table_rows.specs.declared.reach.Way.TheVariants.{Forward, Backward}
use Rattle.table_rows.specs.declared.reach.Reach.{Reach}
use Rattle.table_rows.specs.HasRows.{HasAsGood, HasEach}
use Rattle.table_rows.specs.Reached.{until_bound, short_part, label_in, IsGoodEnough, IsReachedAt, IsReachedIn, IsValueIn}
use Rattle.table_rows.specs.Served.{IsWithin}
use Rattle.table_rows.proofs.ReachLaws.{value-near, each-short, arc-by_windows}

below-sooner : (bound : Option ℕ) (value other : ℕ) → value ≤ other → IsBelow bound other → IsBelow bound value
below-sooner None value other sooner below = below
below-sooner (Some bound) value other sooner below = omega (arith, sooner, below)

above-later : (bound : Option ℕ) (value other : ℕ) → other ≤ value → IsAbove bound other → IsAbove bound value
above-later None value other later above = above
above-later (Some bound) value other later above = omega (arith, later, above)

-- what is read at a place stands there
pub read-there : {X : Type 0} (xs : List X) (k : ℕ) (x : X) → k < length xs → x ≡ get_or xs k x → slice_get xs k ≡ Some x
read-there xs k x on is = slice_get-get_or xs k x on ∙ ap (λ y. Some y) (sym is)

-- a row of the label's arc and window
same-place : (rows : List LabelRow) (arc : Arc) (w : Span) (label : LabelRow) (v : ℕ) → label ≡ label_in arc w label.value → Contains rows (label_in arc w v) → Contains rows (record label { value = v })
same-place rows arc w label v is there = subst (Contains rows) {x = label_in arc w v} (sym (ap (λ (l : LabelRow). record l { value = v }) is)) there

-- ---- an arc, or a window of it, is reached within a stretch: then within a wider one, with a value that is no worse

module _ (c : Conditions) (arc : Arc) (low from by high : ℕ) (bound : Option ℕ) (rows : List LabelRow) (begins : low ≤ from) (ends : by ≤ high) where
  at-within : (way : Way) → HasEach way (IsReachedAt c (record { way = way; from = low; by = high }) arc) bound rows → HasEach way (IsReachedAt c (record { way = way; from = from; by = by }) arc) bound rows
  at-within Forward each label at short =
      let value : ℕ = max low label.from + seconds_of c label in
      let sooner : value ≤ label.value = omega (arith, at.1.value, begins) in
      let has = each (record label { value = value })
      (at.0, record { is_place = at.1.is_place; in_time = omega (arith, at.1.in_time, begins, ends); value = refl; in_window = omega (arith, sooner, at.1.in_window) })
      (below-sooner bound value label.value sooner short) in
      (has.0, has.1, omega (arith, has.2, sooner))
  at-within Backward each label at short =
      let last : ℕ = last_of c (window_of label) in
      let value : ℕ = min high last - seconds_of c label in
      let same : value + seconds_of c label ≡ min high last = omega (arith, at.1.value, ends) in
      let later : label.value ≤ value = omega (arith, at.1.value, same, ends) in
      let has = each (record label { value = value })
      (at.0, record { is_place = at.1.is_place; in_time = omega (arith, at.1.in_time, begins, ends); value = same; in_window = omega (arith, later, at.1.in_window) })
      (above-later bound value label.value later short) in
      (has.0, has.1, omega (arith, has.2, later))

  in-within : (way : Way) (n : ℕ) (w : Span) → HasEach way (IsReachedIn c (record { way = way; from = low; by = high }) arc n w) bound rows
      → HasEach way (IsReachedIn c (record { way = way; from = from; by = by }) arc n w) bound rows
  in-within Forward n w each label at short =
      let value : ℕ = max low w.from + n in
      let sooner : value ≤ label.value = omega (arith, at.value.1, begins) in
      let has = each (label_in arc w value) (record { is = refl; value = (omega (arith, at.value.0, begins, ends), refl, omega (arith, sooner, at.value.2)) }) (below-sooner bound value label.value sooner short) in
      (has.0, same-place rows arc w label has.0 at.is has.1, omega (arith, has.2, sooner))
  in-within Backward n w each label at short =
      let last : ℕ = last_of c w in
      let value : ℕ = min high last - n in
      let same : value + n ≡ min high last = omega (arith, at.value.1, ends) in
      let later : label.value ≤ value = omega (arith, at.value.1, same, ends) in
      let has = each (label_in arc w value) (record { is = refl; value = (omega (arith, at.value.0, begins, ends), same, omega (arith, later, at.value.2)) }) (above-later bound value label.value later short) in
      (has.0, same-place rows arc w label has.0 at.is has.1, omega (arith, has.2, later))

pub each-within : (c : Conditions) (arc : Arc) (outer inner : Reach) (bound : Option ℕ) (rows : List LabelRow) → IsWithin outer inner
    → HasEach outer.way (IsReachedAt c outer arc) bound rows → HasEach inner.way (IsReachedAt c inner arc) bound rows
each-within c arc outer inner bound rows within each =
    subst (λ (way : Way). HasEach way (IsReachedAt c (record { way = way; from = inner.from; by = inner.by }) arc) bound rows) (sym within.way)
    (at-within c arc outer.from inner.from inner.by outer.by bound rows within.begins within.ends outer.way each)

pub each_in-within : (c : Conditions) (arc : Arc) (n : ℕ) (w : Span) (outer inner : Reach) (bound : Option ℕ) (rows : List LabelRow) → IsWithin outer inner
    → HasEach outer.way (IsReachedIn c outer arc n w) bound rows → HasEach inner.way (IsReachedIn c inner arc n w) bound rows
each_in-within c arc n w outer inner bound rows within each =
    subst (λ (way : Way). HasEach way (IsReachedIn c (record { way = way; from = inner.from; by = inner.by }) arc n w) bound rows) (sym within.way)
    (in-within c arc outer.from inner.from inner.by outer.by bound rows within.begins within.ends outer.way n w each)

-- nothing is reached in a stretch that ends before it begins
pub each-empty : (way : Way) (c : Conditions) (arc : Arc) (bound : Option ℕ) (rows : List LabelRow) → HasEach way (IsReachedAt c (record { way = way; from = 1; by = 0 }) arc) bound rows
each-empty Forward c arc bound rows label at short = absurd (omega (arith, at.1.in_time))
each-empty Backward c arc bound rows label at short = absurd (omega (arith, at.1.in_time))

-- nor in a window that begins behind it
pub each-beyond : (c : Conditions) (arc : Arc) (n : ℕ) (w : Span) (reach : Reach) (bound : Option ℕ) (rows : List LabelRow) → reach.by < w.from → HasEach reach.way (IsReachedIn c reach arc n w) bound rows
each-beyond c arc n w reach bound rows beyond label at short = absurd (omega (arith, (value-near reach.way c reach.from reach.by n w label.value at.value).1, beyond))

-- ---- a window by its row, which is no worse than what is reached in it

module _ (c : Conditions) (row : LabelRow) (n : ℕ) (reach : Reach) (bound : Option ℕ) (rows : List LabelRow) (there : Contains rows row) where
  row-at : (label : LabelRow) → IsReachedIn c reach row.arc n (window_of row) label → Contains rows (record label { value = row.value })
  row-at label at = same-place rows row.arc (window_of row) label row.value at.is there

  pub each-entered : reach.way ≡ Forward → ((v : ℕ) → IsValueIn reach.way c reach.from reach.by n (window_of row) v → row.value ≤ v) → HasEach reach.way (IsReachedIn c reach row.arc n (window_of row)) bound rows
  each-entered way early label at short = subst (λ (w : Way). HasAsGood w rows label) (sym way) (row.value, row-at label at, early label.value at.value)

  pub each-left : reach.way ≡ Backward → ((v : ℕ) → IsValueIn reach.way c reach.from reach.by n (window_of row) v → v ≤ row.value) → HasEach reach.way (IsReachedIn c reach row.arc n (window_of row)) bound rows
  each-left way late label at short = subst (λ (w : Way). HasAsGood w rows label) (sym way) (row.value, row-at label at, late label.value at.value)

  -- so it is where the row's value is good enough for all that is reached
  pub each-good : IsGoodEnough reach.way reach.from reach.by n row.value → HasEach reach.way (IsReachedIn c reach row.arc n (window_of row)) bound rows
  each-good = go reach.way reach.from reach.by where
    go : (way : Way) (from by : ℕ) → IsGoodEnough way from by n row.value → HasEach way (IsReachedIn c (record { way = way; from = from; by = by }) row.arc n (window_of row)) bound rows
    go Forward from by good label at short = (row.value, same-place rows row.arc (window_of row) label row.value at.is there, omega (arith, good, at.value.1))
    go Backward from by good label at short = (row.value, same-place rows row.arc (window_of row) label row.value at.is there, omega (arith, good, at.value.1))

-- ---- the part that is short of a bound

pub within-trans : (a b c : Reach) → IsWithin a b → IsWithin b c → IsWithin a c
within-trans a b c ab bc = record { way = bc.way ∙ ab.way; begins = omega (arith, ab.begins, bc.begins); ends = omega (arith, ab.ends, bc.ends) }

pub within-refl : (a : Reach) → IsWithin a a
within-refl a = record { way = refl; begins = omega arith; ends = omega arith }

short-narrower : (bound : Option ℕ) (reach : Reach) → IsWithin reach (short_part bound reach)
short-narrower None reach = within-refl reach
short-narrower (Some bound) reach = go reach.way reach.from reach.by where
  go : (way : Way) (from by : ℕ) → IsWithin (record { way = way; from = from; by = by }) (until_bound way bound (record { way = way; from = from; by = by }))
  go Forward from by = record { way = refl; begins = omega arith; ends = omega arith }
  go Backward from by = record { way = refl; begins = omega arith; ends = omega arith }

short-within : (bound : Option ℕ) (outer inner : Reach) → IsWithin outer inner → IsWithin (short_part bound outer) (short_part bound inner)
short-within None outer inner within = within
short-within (Some bound) outer inner within =
    subst (λ (way : Way). IsWithin (until_bound outer.way bound outer) (until_bound way bound (record { way = way; from = inner.from; by = inner.by }))) (sym within.way)
    (go outer.way outer.from inner.from inner.by outer.by within.begins within.ends) where
      go : (way : Way) (low from by high : ℕ) → low ≤ from → by ≤ high
          → IsWithin (until_bound way bound (record { way = way; from = low; by = high })) (until_bound way bound (record { way = way; from = from; by = by }))
      go Forward low from by high begins ends = record { way = refl; begins = begins; ends = omega (arith, ends) }
      go Backward low from by high begins ends = record { way = refl; begins = omega (arith, begins); ends = ends }

-- where the windows that are gone through are all that a wider stretch may come to short of the bound
pub stretch-by_windows : (c : Conditions) (arc : Arc) (n : ℕ) → seconds c.airport c.class (segment_of arc) ≡ Some n → IsTrue (arc_exists (layout_of c.airport) arc)
    → (windows : List Span) → AreWindows (c.free (segment_of arc)) windows → (widest stretch : Reach) (bound : Option ℕ) (rows : List LabelRow) (near : List Span) → All (Contains windows) near
    → All (λ w. (short_part bound widest).from ≤ w.until → w.from ≤ (short_part bound widest).by → Contains near w) windows → IsWithin widest stretch
    → All (λ w. HasEach stretch.way (IsReachedIn c stretch arc n w) bound rows) near → HasEach stretch.way (IsReachedAt c stretch arc) bound rows
stretch-by_windows c arc n takes exists windows are widest stretch bound rows near listed whole inside served =
    let short = short-within bound widest stretch inside in
    (each-short c arc stretch bound rows).0
    ((arc-by_windows c arc n takes exists windows are (short_part bound stretch) bound rows near listed
    (λ k d on late early. whole k d on (omega (arith, short.begins, late)) (omega (arith, short.ends, early)))).0
    (λ k d on. each_in-within c arc n _ stretch (short_part bound stretch) bound rows (short-narrower bound stretch) (served k d on)))
