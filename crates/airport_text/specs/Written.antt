-- A text of records in the making.
use Rattle.std.specs.Prelude.{◌≡◌, ℕ, false, List, [], ◌∷◌, ◌++◌, Option, Some, None}
use Rattle.csv.specs.Writing.{writer_setup, fields_written, has_written}
use Rattle.csv.specs.declared.writer.Writer.{Writer}
use Rattle.airport_text.specs.Canonical.{Fields, record_writer, text_of_records}

-- a text with these records after it
unfoldable pub and_records : List ℕ → List Fields → List ℕ
and_records text records = text ++ text_of_records records

-- where a writer stands between two records, and how it writes them
abbrev pub IsBetweenRecords : {W : Type 0} → Writer W → Type 0
IsBetweenRecords writer = (writer_setup writer ≡ record_writer) × (fields_written writer ≡ 0) × (has_written writer ≡ false)

-- one record or none
abbrev pub record_if_any : Option Fields → List Fields
record_if_any None = []
record_if_any (Some fields) = fields ∷ []
