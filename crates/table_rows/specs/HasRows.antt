-- Which labels are short of a bound, and has each label of a kind a row? On either of the two ways.
use Rattle.std.specs.Prelude.{ℕ, List, Option}
use Rattle.taxi_base.specs.declared.rows.LabelRow.{LabelRow}
use Rattle.label_core.specs.Tables.{IsBelow}
use Rattle.label_core.specs.BackwardTables.{IsAbove}
use Rattle.walk_labels.specs.Rules.{HasAsEarly}
use Rattle.walk_labels.specs.BackwardRules.{HasAsLate}
use Rattle.table_rows.specs.declared.reach.Way.{Way}
use Rattle.table_rows.specs.declared.reach.Way.TheVariants.{Forward, Backward}

-- short of the bound: below it going on, above it going back
abbrev pub IsShort : Way → Option ℕ → ℕ → Type 0
IsShort Forward bound value = IsBelow bound value
IsShort Backward bound value = IsAbove bound value

-- a row has the label's arc and window, and a value that is at least as early, or as late
abbrev pub HasAsGood : Way → List LabelRow → LabelRow → Type 0
HasAsGood Forward rows label = HasAsEarly rows label
HasAsGood Backward rows label = HasAsLate rows label

-- each label of a kind that is short of the bound has a row that is at least as good
abbrev pub HasEach : Way → (LabelRow → Type 0) → Option ℕ → List LabelRow → Type 0
HasEach way IsOne bound rows = (label : LabelRow) → IsOne label → IsShort way bound label.value → HasAsGood way rows label
