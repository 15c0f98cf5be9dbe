-- In which pieces is a run's output handed over?
use Rattle.std.specs.Prelude.{◌≡◌, ◌⊎◌, ℕ, List, [], ◌∷◌, ◌++◌, length, Option, Ok}
use Rattle.taxi_base.specs.Airport.{Airport}
use Rattle.taxi_base.specs.State.{State, no_holder}
use Rattle.taxi_io.specs.Files.{Files}
use Rattle.taxi_io.specs.Written.{AreHanded, AreHandedInPart}
use Rattle.replies.specs.declared.block.Block.{Block}
use Rattle.transcripts.specs.Runs.{IsRun, done_line}
use Rattle.command_run.specs.Answered.{texts_of}
use Rattle.program_files.specs.declared.status.Status.{Status}
use Rattle.program_files.specs.declared.status.Status.TheVariants.{Done}
use Rattle.program_words.specs.Verb.{FileNames}
use Rattle.program_files.specs.Inputs.{IsJudged}
use Rattle.taxi_cli.specs.Endings.{Call}
use Rattle.taxi_cli.specs.Outcomes.{IsTranscript}

-- the blocks of a run at the accepted airport, and a last line
pub record AreBlocksAndLine (told : Option Files) (names : FileNames) (texts : List (List ℕ)) : Type 0 where
  pub airport : Airport
  pub accepted : IsJudged told names.airport (Ok airport)
  pub lines : List (List ℕ)
  pub blocks : List Block
  pub after : State
  pub run : IsRun airport no_holder lines blocks after
  pub last : List ℕ
  pub are : texts ≡ texts_of airport blocks ++ last ∷ []

-- the texts of a run: blocks and a last line, or a line alone
abbrev pub AreRunTexts : Option Files → FileNames → List (List ℕ) → Type 0
AreRunTexts told names texts = ((line : List ℕ) × (texts ≡ line ∷ [])) ⊎ AreBlocksAndLine told names texts

-- Each block of a run, and its last line, is handed over as one piece, and again what was left of it until nothing was. A run that
-- doesn't end with `Done` may stop behind any of them, and may leave one of them in part.
pub record IsInPieces (call : Call) (names : FileNames) (ended : Status) : Type 0 where
  pub texts : List (List ℕ)
  pub are : AreRunTexts call.files names texts
  pub handed : AreHandedInPart call.taken.0 call.taken.1 texts
  pub done : ended ≡ Done → (text : List ℕ) × (whole : IsTranscript call.files names text)
      × AreHanded call.taken.0 call.taken.1 (texts_of whole.airport whole.blocks ++ done_line (length whole.blocks) ∷ [])
