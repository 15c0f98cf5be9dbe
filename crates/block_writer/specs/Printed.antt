-- What stands at the end of a text when a block is written there?
use Rattle.std.specs.Prelude.{ℕ, ◌≡◌, List, ◌++◌, map, flat_map, All, ⊤}
use Rattle.taxi_base.specs.Airport.{Airport}
use Rattle.taxi_base.specs.declared.rows.Step.{Step}
use Rattle.taxi_base.specs.declared.rows.LabelRow.{LabelRow}
use Rattle.replies.specs.Texts.{lines_text, entry_lines}
use Rattle.replies.specs.Printable.{HasArc, HasSegment, HasClass}
use Rattle.replies.specs.declared.block.Block.{Block}
use Rattle.replies.specs.declared.block.Block.TheVariants.{Route, NoRoute, Windows, Occupancy, Timetable, Batch, Late}
use Rattle.replies.specs.declared.entries.Entry.{Entry}
use Rattle.replies.specs.declared.entries.Entry.TheVariants as entry

abbrev pub IsWritableRoute : Airport → List Step → List LabelRow → Type 0
IsWritableRoute airport steps labels = All (λ step. HasArc airport step.arc) steps × All (λ label. HasArc airport label.arc) labels

abbrev pub IsWritableEntry : Airport → List ℕ × Entry → Type 0
IsWritableEntry airport (name, entry.Route second steps labels) = IsWritableRoute airport steps labels
IsWritableEntry airport (name, entry.NoRoute labels) = All (λ label. HasArc airport label.arc) labels
IsWritableEntry airport (name, entry.Dropped) = ⊤

-- A block can be written, however long its numbers are: its arcs, segments and classes are the airport's.
abbrev pub IsWritable : Airport → Block → Type 0
IsWritable airport (Route flight second steps labels) = IsWritableRoute airport steps labels
IsWritable airport (NoRoute labels) = All (λ label. HasArc airport label.arc) labels
IsWritable airport (Windows segment windows) = HasSegment airport segment
IsWritable airport (Occupancy segment held) = HasSegment airport segment × All (λ row. HasSegment airport row.segment) held
IsWritable airport (Timetable flights) = All (λ row. HasClass airport row.class) flights
IsWritable airport (Batch total entries) = All (IsWritableEntry airport) entries
IsWritable airport (Late flight entries) = All (IsWritableEntry airport) entries
IsWritable airport _ = ⊤

-- the lines of rows
abbrev pub rows_text : {X : Type 0} → (X → List (List ℕ)) → List X → List ℕ
rows_text words rows = lines_text (map words rows)

-- the lines of entries
abbrev pub entries_text : Airport → List (List ℕ × Entry) → List ℕ
entries_text airport entries = lines_text (flat_map (entry_lines airport) entries)

-- a first part of a text, perhaps none of it, has come to what was there
pub record IsCutShort (text old new : List ℕ) : Type 0 where
  pub written : List ℕ
  pub rest : List ℕ
  pub parts : text ≡ written ++ rest
  pub grown : new ≡ old ++ written
