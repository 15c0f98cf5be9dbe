-- Which text comes of an airport file, or of a schedule?
use Rattle.std.specs.Prelude.{◌≡◌, ◌⊎◌, ℕ, List, Option, Result, Ok, Err}
use Rattle.taxi_base.specs.Airport.{Airport}
use Rattle.taxi_io.specs.Files.{Files}
use Rattle.airport_text.specs.Canonical.{canonical_text}
use Rattle.schedule_import.specs.declared.import.ScheduleRefused.{ScheduleRefused}
use Rattle.schedule_import.specs.declared.import.ScheduleRefused.TheVariants.{FirstRow, BadStart}
use Rattle.schedule_import.specs.Schedule.{import_of}
use Rattle.program_words.specs.Verb.{FileNames}
use Rattle.program_files.specs.declared.status.Status.{Status}
use Rattle.program_files.specs.declared.status.Status.TheVariants as status
use Rattle.program_files.specs.Inputs.{IsJudged, AreAccepted}
use Rattle.text_verbs.specs.Lines.{first_row_line, bad_start_line}

-- the canonical text of an airport that is accepted
pub record IsMigrated (told : Option Files) (name : List ℕ) (text : List ℕ) : Type 0 where
  pub airport : Airport
  pub accepted : IsJudged told name (Ok airport)
  pub whole : text ≡ canonical_text airport

-- an airport that is accepted, a schedule within its limit, and what it comes to: the text of its answers, or why it is refused
pub record IsImported (told : Option Files) (names : FileNames) (outcome : Result (List ℕ) ScheduleRefused) : Type 0 where
  pub airport : Airport
  pub schedule : List ℕ
  pub accepted : AreAccepted told names airport schedule
  pub comes_to : import_of airport schedule ≡ outcome

-- ---- the texts that go with a status

abbrev pub IsMigrateText : Option Files → List ℕ → Status → List ℕ → Type 0
IsMigrateText told name status.Done text = IsMigrated told name text
IsMigrateText told name _ text = ⊥

abbrev pub IsImportText : Option Files → FileNames → Status → List ℕ → Type 0
IsImportText told names status.Done text = IsImported told names (Ok text)
IsImportText told names status.ScheduleRefused text =
    (IsImported told names (Err FirstRow) × (text ≡ first_row_line)) ⊎ (IsImported told names (Err BadStart) × (text ≡ bad_start_line))
IsImportText told names _ text = ⊥
