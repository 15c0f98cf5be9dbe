-- By which rules is a table of labels checked, one after the other?
use Rattle.std.specs.Prelude.{ℕ, ◌≡◌, IsTrue, List, Option, Some, All, AllPairs, Contains}
use Rattle.taxi_base.specs.declared.rows.LabelRow.{LabelRow}
use Rattle.taxi_base.specs.Airport.{layout_of, head, tail}
use Rattle.taxi_base.specs.Walks.{Conditions}
use Rattle.taxi_base.specs.Labels.{precedes}
use Rattle.taxi_base.specs.Choices.{OneOf}
use Rattle.label_core.specs.Tables.{IsBelow}
use Rattle.label_core.specs.BackwardTables.{IsAbove}
use Rattle.walk_labels.specs.Places.{IsPlace, place_of}
use Rattle.walk_labels.specs.Rules.{IsStartBy, IsNext, HasAsEarly}
use Rattle.walk_labels.specs.BackwardRules.{IsFinishAt, IsPrevious, HasAsLate}
use Rattle.replies.specs.Sought.{Search, onward, backward}

-- the rows are in strictly rising order, and each is of a place: its segment has seconds for the class, and its from and until
-- are a window of it
abbrev pub KeepsRows : Conditions → List LabelRow → Type 0
KeepsRows c rows = AllPairs (λ p q. IsTrue (precedes p q)) rows × All (λ row. IsPlace c (place_of row)) rows

-- each start that is short of the bound has a row that is at least as good
abbrev pub KeepsStart : Conditions → Search → Option ℕ → List LabelRow → Type 0
KeepsStart c (onward begins to) bound rows = (label : LabelRow) → IsStartBy c begins label → IsBelow bound label.value → HasAsEarly rows label
KeepsStart c (backward from to earliest latest) bound rows =
    (label : LabelRow) → IsFinishAt c to earliest latest label → IsAbove bound label.value → HasAsLate rows label

-- and so has each label that comes of a row
abbrev pub KeepsStep : Conditions → Search → Option ℕ → List LabelRow → Type 0
KeepsStep c (onward begins to) bound rows = (row next : LabelRow) → Contains rows row → IsNext c row next → IsBelow bound next.value → HasAsEarly rows next
KeepsStep c (backward from to earliest latest) bound rows =
    (row previous : LabelRow) → Contains rows row → IsPrevious c row previous → IsAbove bound previous.value → HasAsLate rows previous

-- no row reaches one of the targets, and each is short of the bound
abbrev pub KeepsTarget : Conditions → Search → Option ℕ → List LabelRow → Type 0
KeepsTarget c (onward begins to) bound rows =
    All (λ row. OneOf (λ node. head (layout_of c.airport) row.arc ≡ Some node) to → ⊥) rows × All (λ row. IsBelow bound row.value) rows
KeepsTarget c (backward from to earliest latest) bound rows =
    All (λ row. tail (layout_of c.airport) row.arc ≡ Some from → ⊥) rows × All (λ row. IsAbove bound row.value) rows

-- all four
pub record KeepsTable (c : Conditions) (search : Search) (bound : Option ℕ) (rows : List LabelRow) : Type 0 where
  pub rows_kept : KeepsRows c rows
  pub start_kept : KeepsStart c search bound rows
  pub step_kept : KeepsStep c search bound rows
  pub target_kept : KeepsTarget c search bound rows
