-- In which stretches of seconds has each label of an arc that is reached a row?
use Rattle.std.specs.Prelude.{ℕ, ◌≡◌, ◌≤◌, List, Option, Some, slice_get}
use Rattle.taxi_base.specs.declared.numbers.Arc.{Arc}
use Rattle.taxi_base.specs.declared.rows.LabelRow.{LabelRow}
use Rattle.taxi_base.specs.Walks.{Conditions}
use Rattle.table_rows.specs.declared.reach.Way.{Way}
use Rattle.table_rows.specs.declared.reach.Reach.{Reach}
use Rattle.table_rows.specs.declared.served.Stretch.{Stretch}
use Rattle.table_rows.specs.declared.served.ArcStretches.{ArcStretches}
use Rattle.table_rows.specs.declared.served.Served.{Served}
use Rattle.table_rows.specs.HasRows.{HasEach}
use Rattle.table_rows.specs.Reached.{IsReachedAt}

-- one reach lies within another of the same way
pub record IsWithin (outer inner : Reach) : Type 0 where
  pub way : inner.way ≡ outer.way
  pub begins : outer.from ≤ inner.from
  pub ends : inner.by ≤ outer.by

-- to reach an arc within a stretch
abbrev pub reach_in : Way → Stretch → Reach
reach_in way stretch = record { way = way; from = stretch.from; by = stretch.by }

-- each label of an arc that is reached within a stretch has a row
abbrev pub IsServed : Way → Conditions → Option ℕ → List LabelRow → Arc → Stretch → Type 0
IsServed way c bound rows arc stretch = HasEach way (IsReachedAt c (reach_in way stretch) arc) bound rows

-- so it is in all stretches that are kept
pub record AreServed (way : Way) (c : Conditions) (bound : Option ℕ) (rows : List LabelRow) (served : Served) : Type 0 where
  pub each : (arc : Arc) (kept : ArcStretches) → slice_get served.arcs.items arc.0 ≡ Some kept → IsServed way c bound rows arc kept.newer × IsServed way c bound rows arc kept.older
