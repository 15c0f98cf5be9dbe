-- Which values does a search hand out?
use Rattle.std.specs.Prelude.{◌≡◌, ℕ, suc, ◌↔◌, ◌≤◌, nat_lt, if◌then◌else◌, List, [], ◌∷◌, length, map, take, Option, Some, None, slice_index_or}
use Rattle.label_core.specs.Walks.{Network, Start, IsEarliestExit}
use Rattle.label_core.specs.BackwardWalks.{Finish, IsLatestEntry}
use Rattle.label_core.specs.Tables.{IsBelow}
use Rattle.label_core.specs.BackwardTables.{IsAbove}
use Rattle.label_search.specs.declared.values.CellValue.{CellValue}
use Rattle.label_search.specs.declared.labels.Label.{Label}

-- a row for each cell that has a value, from cell n on, in order
abbrev pub rows_from : ℕ → List (Option ℕ) → List CellValue
rows_from n [] = []
rows_from n (None ∷ known) = rows_from (suc n) known
rows_from n (Some v ∷ known) = record { cell = n; value = v } ∷ rows_from (suc n) known

-- The rows are those of a list that has each cell's value, and None where it has none; and a cell has a value just where
-- that is its earliest exit and below the bound.
pub record AreExits (network : Network ℕ) (starts : ℕ → Option Start) (count : ℕ) (bound : Option ℕ) (rows : List CellValue) : Type 0 where
  pub known : List (Option ℕ)
  pub as_many : length known ≡ count
  pub are_rows : rows ≡ rows_from 0 known
  pub exact : (c v : ℕ) → (slice_index_or known c None ≡ Some v) ↔ (IsEarliestExit network starts c v × IsBelow bound v)

-- the same where that is its latest entry and above the bound
pub record AreEntries (network : Network ℕ) (finishes : ℕ → Option Finish) (count : ℕ) (bound : Option ℕ) (rows : List CellValue) : Type 0 where
  pub known : List (Option ℕ)
  pub as_many : length known ≡ count
  pub are_rows : rows ≡ rows_from 0 known
  pub exact : (c v : ℕ) → (slice_index_or known c None ≡ Some v) ↔ (IsLatestEntry network finishes c v × IsAbove bound v)

-- The rows tell such values, each as `told` has it.
pub record TellExits {T : Type 0} (told : CellValue → T) (network : Network ℕ) (starts : ℕ → Option Start) (count : ℕ) (bound : Option ℕ) (rows : List T) : Type 0 where
  pub values : List CellValue
  pub are_exits : AreExits network starts count bound values
  pub are_told : rows ≡ map told values

pub record TellEntries {T : Type 0} (told : CellValue → T) (network : Network ℕ) (finishes : ℕ → Option Finish) (count : ℕ) (bound : Option ℕ) (rows : List T) : Type 0 where
  pub values : List CellValue
  pub are_entries : AreEntries network finishes count bound values
  pub are_told : rows ≡ map told values

-- ---- what is kept of labels

-- the value of a label, if there is one and it is below the bound, if there is one
abbrev pub value_kept : Option ℕ → Option Label → Option ℕ
value_kept bound None = None
value_kept None (Some l) = Some l.value
value_kept (Some b) (Some l) = if nat_lt l.value b then Some l.value else None

abbrev pub values_kept : Option ℕ → List (Option Label) → List (Option ℕ)
values_kept bound known = map (value_kept bound) known

-- ---- handing values out while labels are taken away

-- from one cell on the labels are as before
abbrev pub AreAsBeforeFrom : ℕ → List (Option Label) → List (Option Label) → Type 0
AreAsBeforeFrom first old now = (c : ℕ) → first ≤ c → slice_index_or now c None ≡ slice_index_or old c None

-- the rows tell the values that are kept of the first n labels
abbrev pub AreRowsTo : {T : Type 0} → (CellValue → T) → Option ℕ → List (Option Label) → ℕ → List T → Type 0
AreRowsTo told bound all n rows = rows ≡ map told (rows_from 0 (take n (values_kept bound all)))
