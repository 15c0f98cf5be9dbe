-- What a reader has still to read.
use Rattle.std.specs.Prelude.{ℕ, ◌≡◌, ◌+◌, true, false, List, [], length, Option, Some, None, ⊤}
use Rattle.std.specs.Borrow.{Bor}
use Rattle.csv.specs.Machine.{ends_at_end}
use Rattle.csv.specs.Reading.{records_from, default_config, source_of, Ready, reader_config, reader_trim, reader_state, is_flexible}
use Rattle.csv.specs.declared.error.ErrorKind.{ErrorKind}
use Rattle.csv.specs.declared.error.ErrorKind.TheVariants as kind
use Rattle.csv.specs.declared.reader.Reader.{Reader}
use Rattle.csv.specs.declared.reader.Trim.TheVariants as trim
use Rattle.csv.specs.declared.parser.State.{State}

-- the bytes that a reader over bytes has left; none once it has failed
abbrev pub bytes_left : Reader (Bor (List ℕ)) → Option (List ℕ)
bytes_left reader = source_of (λ bytes. Some bytes.now) reader

abbrev pub rows_of : State → Option (List ℕ) → List (List (List ℕ))
rows_of state None = []
rows_of state (Some bytes) = records_from default_config (length bytes + 1) state bytes

-- the records that a reader has still to read
abbrev pub rows_left : Reader (Bor (List ℕ)) → List (List (List ℕ))
rows_left reader = rows_of (reader_state reader) (bytes_left reader)

-- a reader's own words for want of memory: that memory ran out, or that the reader underneath failed, which is bytes in memory
abbrev pub IsOfMemory : ErrorKind → Type 0
IsOfMemory kind.OutOfMemory = ⊤
IsOfMemory (kind.Io error) = ⊤
IsOfMemory (kind.UnequalLengths pos expected len) = ⊥
IsOfMemory (kind.Utf8 pos error) = ⊥
IsOfMemory (kind.Serialize text) = ⊥
IsOfMemory (kind.Deserialize pos error) = ⊥

-- a reader that stands before a record or the end, and reads fields as they are, of records of any length
pub record IsReading (reader : Reader (Bor (List ℕ))) : Type 0 where
  pub flexible : is_flexible reader ≡ true
  pub config : reader_config reader ≡ default_config
  pub trim : reader_trim reader ≡ trim.None
  pub ready : Ready reader
  pub between : ends_at_end (reader_state reader) ≡ false
  pub bytes : List ℕ
  pub known : bytes_left reader ≡ Some bytes
