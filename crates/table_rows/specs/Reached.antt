-- Which labels of an arc are reached in time, and with which value in a window?
use Rattle.std.specs.Prelude.{ℕ, ◌≡◌, ◌+◌, ◌-◌, ◌≤◌, max, min, List, Option, Some, None, Contains}
use Rattle.taxi_base.specs.declared.numbers.Arc.{Arc}
use Rattle.taxi_base.specs.declared.rows.Step.{Step}
use Rattle.taxi_base.specs.declared.rows.Span.{Span}
use Rattle.taxi_base.specs.declared.rows.LabelRow.{LabelRow}
use Rattle.taxi_base.specs.Walks.{Conditions, IsInside, last_of}
use Rattle.taxi_base.specs.Labels.{window_of, seconds_of}
use Rattle.walk_labels.specs.Places.{IsPlace, place_of}
use Rattle.table_rows.specs.declared.reach.Way.{Way}
use Rattle.table_rows.specs.declared.reach.Way.TheVariants.{Forward, Backward}
use Rattle.table_rows.specs.declared.reach.Reach.{Reach}

-- ---- a label's place is reached

-- going on: it is entered from a second on and by another, and left at the value at the soonest
pub record IsEntered (c : Conditions) (from by : ℕ) (label : LabelRow) : Type 0 where
  pub is_place : IsPlace c (place_of label)
  pub in_time : max from label.from ≤ by
  pub value : label.value ≡ max from label.from + seconds_of c label
  pub in_window : label.value ≤ last_of c (window_of label)

-- going back: it is left from a second on and by another, and entered at the value at the latest
pub record IsLeft (c : Conditions) (from by : ℕ) (label : LabelRow) : Type 0 where
  pub is_place : IsPlace c (place_of label)
  pub in_time : from ≤ min by (last_of c (window_of label))
  pub value : label.value + seconds_of c label ≡ min by (last_of c (window_of label))
  pub in_window : label.from ≤ label.value

abbrev pub IsReachedBy : Way → Conditions → ℕ → ℕ → LabelRow → Type 0
IsReachedBy Forward c from by label = IsEntered c from by label
IsReachedBy Backward c from by label = IsLeft c from by label

-- at an arc
abbrev pub IsReachedAt : Conditions → Reach → Arc → LabelRow → Type 0
IsReachedAt c reach arc label = (label.arc ≡ arc) × IsReachedBy reach.way c reach.from reach.by label

-- the part of a reach in which a label can be short of a bound
abbrev pub until_bound : Way → ℕ → Reach → Reach
until_bound Forward bound reach = record { way = Forward; from = reach.from; by = min reach.by bound }
until_bound Backward bound reach = record { way = Backward; from = max reach.from bound; by = reach.by }

abbrev pub short_part : Option ℕ → Reach → Reach
short_part None reach = reach
short_part (Some bound) reach = until_bound reach.way bound reach

-- a row of an arc, whose window holds the whole of a reach
pub record IsRowAround (reach : Reach) (arc : Arc) (rows : List LabelRow) (row : LabelRow) : Type 0 where
  pub there : Contains rows row
  pub on : row.arc ≡ arc
  pub begins : row.from ≤ reach.from
  pub ends : reach.by ≤ row.until

-- a value is as good as any that is reached from a second on and by another, where the class takes these seconds
abbrev pub IsGoodEnough : Way → ℕ → ℕ → ℕ → ℕ → Type 0
IsGoodEnough Forward from by seconds value = value - seconds ≤ from
IsGoodEnough Backward from by seconds value = by - seconds ≤ value

-- ---- in one window

-- the value in a window, where the class takes these seconds
abbrev pub IsValueIn : Way → Conditions → ℕ → ℕ → ℕ → Span → ℕ → Type 0
IsValueIn Forward c from by seconds w value = (max from w.from ≤ by) × (value ≡ max from w.from + seconds) × (value ≤ last_of c w)
IsValueIn Backward c from by seconds w value = (from ≤ min by (last_of c w)) × (value + seconds ≡ min by (last_of c w)) × (w.from ≤ value)

abbrev pub label_in : Arc → Span → ℕ → LabelRow
label_in arc w value = record { arc = arc; from = w.from; until = w.until; value = value }

-- the label of an arc in a window
pub record IsReachedIn (c : Conditions) (reach : Reach) (arc : Arc) (seconds : ℕ) (w : Span) (label : LabelRow) : Type 0 where
  pub is : label ≡ label_in arc w label.value
  pub value : IsValueIn reach.way c reach.from reach.by seconds w label.value

-- the label of a window around a step that was begun
pub record IsAround (c : Conditions) (begun : Step) (value : ℕ) (w : Span) (label : LabelRow) : Type 0 where
  pub is : label ≡ label_in begun.arc w value
  pub inside : IsInside c w begun
