-- In which pieces is the output handed over?
use Rattle.std.specs.Prelude.{◌≡◌, ◌⊎◌, ℕ, List, [], ◌∷◌, ◌++◌, length, Option, Some, Ok}
use Rattle.taxi_base.specs.Airport.{Airport}
use Rattle.taxi_base.specs.State.{State, no_holder}
use Rattle.taxi_text.specs.Lines.{lines_of}
use Rattle.taxi_io.specs.Files.{Files}
use Rattle.taxi_io.specs.Written.{AreHanded, AreHandedInPart}
use Rattle.replies.specs.declared.block.Block.{Block}
use Rattle.transcripts.specs.Runs.{IsRun}
use Rattle.command_run.specs.Ended.{commands_among}
use Rattle.command_run.specs.Told.{numbered_among, texts_told}
use Rattle.reply_json.specs.Lines.{done_line}
use Rattle.program_files.specs.declared.status.Status.{Status}
use Rattle.program_files.specs.declared.status.Status.TheVariants.{Done}
use Rattle.program_files.specs.Call.{Call}
use Rattle.program_words.specs.Verb.{FileNames}
use Rattle.program_files.specs.Inputs.{IsJudged}
use Rattle.tool_words.specs.Verb.{Verb, Json}
use Rattle.taxi_tools.specs.Endings.{IsInOnePiece}
use Rattle.taxi_tools.specs.Objects.{object_of, AreObjects}

-- the objects of a run at the accepted airport, and a last line
pub record AreObjectsAndLine (told : Option Files) (names : FileNames) (texts : List (List ℕ)) : Type 0 where
  pub airport : Airport
  pub accepted : IsJudged told names.airport (Ok airport)
  pub lines : List (List ℕ)
  pub blocks : List Block
  pub after : State
  pub run : IsRun airport no_holder (commands_among lines) blocks after
  pub last : List ℕ
  pub are : texts ≡ texts_told object_of airport (numbered_among lines) blocks ++ last ∷ []

-- objects and a last line, or a line alone
abbrev pub AreJsonTexts : Option Files → FileNames → List (List ℕ) → Type 0
AreJsonTexts told names texts = ((line : List ℕ) × (texts ≡ line ∷ [])) ⊎ AreObjectsAndLine told names texts

-- Each object, and the last line, is handed over as one piece, and again what was left of it until nothing was. A call that doesn't end
-- with `Done` may stop behind any of them, and may leave one of them in part.
pub record IsInPieces (call : Call) (names : FileNames) (ended : Status) : Type 0 where
  pub texts : List (List ℕ)
  pub are : AreJsonTexts call.files names texts
  pub handed : AreHandedInPart call.taken.0 call.taken.1 texts
  pub done : ended ≡ Done → (text : List ℕ) × (whole : AreObjects call.files names text)
      × AreHanded call.taken.0 call.taken.1 (texts_told object_of whole.airport (numbered_among (lines_of whole.commands)) whole.blocks ++ done_line (length whole.blocks) ∷ [])

-- with `json` in pieces, and else in one
abbrev pub IsHandedOver : Call → Option Verb → Status → Type 0
IsHandedOver call (Some (Json names)) ended = IsInPieces call names ended
IsHandedOver call asked ended = IsInOnePiece call asked ended
