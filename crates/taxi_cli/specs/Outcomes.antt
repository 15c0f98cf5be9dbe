-- Which outcome do the files give to what is asked for?
use Rattle.std.specs.Prelude.{◌≡◌, ◌⊎◌, ℕ, List, length, Option, Ok, Err}
use Rattle.taxi_base.specs.Airport.{Airport}
use Rattle.taxi_base.specs.State.{State, no_holder}
use Rattle.taxi_text.specs.Lines.{commands_of}
use Rattle.taxi_io.specs.Files.{Files}
use Rattle.replies.specs.declared.block.Block.{Block}
use Rattle.schedule_import.specs.declared.import.ScheduleRefused.TheVariants.{FirstRow, BadStart}
use Rattle.generated_run.specs.declared.summary.Summary.{Summary}
use Rattle.generated_run.specs.Summaries.{IsSummary, six_lines}
use Rattle.transcripts.specs.Runs.{InTurn, IsRun, transcript}
use Rattle.transcript_check.specs.declared.failure.Failure.{Failure}
use Rattle.transcript_check.specs.Checks.{IsRight, IsWrongAt, IsTrusted}
use Rattle.program_words.specs.Verb.{FileNames, Traffic, Verb, Route, Check, Generate, Migrate, Import}
use Rattle.program_files.specs.Inputs.{AreAccepted, AreToCheck}
use Rattle.text_verbs.specs.Lines.{first_row_line, bad_start_line}
use Rattle.text_verbs.specs.Texts.{IsMigrated, IsImported}
use Rattle.taxi_cli.specs.Lines.{ok_line, wrong_line}

-- ---- whole outputs

-- the transcript of a run over all commands, from an airport without flights
pub record IsTranscript (told : Option Files) (names : FileNames) (text : List ℕ) : Type 0 where
  pub airport : Airport
  pub commands : List ℕ
  pub accepted : AreAccepted told names airport commands
  pub blocks : List Block
  pub after : State
  pub run : IsRun airport no_holder (commands_of commands) blocks after
  pub whole : text ≡ transcript airport blocks

-- How many blocks a transcript has that is right to its last byte. What each of them says of walks is so.
pub record IsConfirmation (told : Option Files) (names : FileNames) (transcript text : List ℕ) : Type 0 where
  pub airport : Airport
  pub commands : List ℕ
  pub bytes : List ℕ
  pub files : AreToCheck told names transcript airport commands bytes
  pub blocks : List Block
  pub right : IsRight airport (commands_of commands) bytes blocks
  pub trusted : InTurn IsTrusted airport no_holder (commands_of commands) blocks right.after
  pub whole : text ≡ ok_line (length blocks)

-- the first block of a transcript that fails, and why
pub record IsRefutation (told : Option Files) (names : FileNames) (transcript text : List ℕ) : Type 0 where
  pub airport : Airport
  pub commands : List ℕ
  pub bytes : List ℕ
  pub files : AreToCheck told names transcript airport commands bytes
  pub number : ℕ
  pub why : Failure
  pub wrong : IsWrongAt airport (commands_of commands) bytes number why
  pub whole : text ≡ wrong_line number why

-- the six lines of what comes of made traffic, where memory runs out for no command
pub record IsToldTraffic (traffic : Traffic) (text : List ℕ) : Type 0 where
  pub summary : Summary
  pub comes_to : IsSummary traffic.number traffic.side traffic.flights summary
  pub whole : text ≡ six_lines summary

-- ---- the outcomes of what is asked for

-- the whole output, where all goes well
abbrev pub IsDoneText : Option Files → Verb → List ℕ → Type 0
IsDoneText told (Route names) text = IsTranscript told names text
IsDoneText told (Check names transcript) text = IsConfirmation told names transcript text
IsDoneText told (Generate traffic) text = IsToldTraffic traffic text
IsDoneText told (Migrate airport) text = IsMigrated told airport text
IsDoneText told (Import names) text = IsImported told names (Ok text)

-- the whole output, where a transcript is wrong
abbrev pub IsWrongText : Option Files → Verb → List ℕ → Type 0
IsWrongText told (Route names) text = ⊥
IsWrongText told (Check names transcript) text = IsRefutation told names transcript text
IsWrongText told (Generate traffic) text = ⊥
IsWrongText told (Migrate airport) text = ⊥
IsWrongText told (Import names) text = ⊥

-- the whole output, where the first record of a schedule is another than it must be, or else the second
abbrev pub IsScheduleRefusedText : Option Files → Verb → List ℕ → Type 0
IsScheduleRefusedText told (Route names) text = ⊥
IsScheduleRefusedText told (Check names transcript) text = ⊥
IsScheduleRefusedText told (Generate traffic) text = ⊥
IsScheduleRefusedText told (Migrate airport) text = ⊥
IsScheduleRefusedText told (Import names) text =
    (IsImported told names (Err FirstRow) × (text ≡ first_row_line)) ⊎ (IsImported told names (Err BadStart) × (text ≡ bad_start_line))
