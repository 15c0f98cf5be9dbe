-- What is written of a run whose command file isn't read to its end?
use Rattle.std.specs.Prelude.{◌≡◌, ◌<◌, ◌⊎◌, ℕ, List, ◌++◌, length, take, Option, Ok}
use Rattle.taxi_base.specs.Airport.{Airport}
use Rattle.taxi_base.specs.State.{State, no_holder}
use Rattle.taxi_io.specs.Files.{Files, IsFile, IsLonger}
use Rattle.replies.specs.declared.block.Block.{Block}
use Rattle.transcripts.specs.Runs.{IsRun, blocks_text}
use Rattle.command_run.specs.Ended.{ended_commands_of}
use Rattle.program_words.specs.Verb.{FileNames, Verb, Route}
use Rattle.program_files.specs.Lines.{read_fault_line, too_large_line}
use Rattle.program_files.specs.Inputs.{airport_limit, commands_limit, IsJudged, IsTooLarge}

-- The airport is accepted, the commands are answered whose lines have ended in these bytes, of which so many count as a command
-- file may have, and then a last line is written.
pub record IsHaltedText (told : Option Files) (names : FileNames) (bytes last text : List ℕ) : Type 0 where
  pub airport : Airport
  pub accepted : IsJudged told names.airport (Ok airport)
  pub blocks : List Block
  pub after : State
  pub run : IsRun airport no_holder (ended_commands_of (take commands_limit bytes)) blocks after
  pub whole : text ≡ blocks_text airport blocks ++ last

-- the whole text where a read fails: of a run in its command file the commands whose lines had ended are answered
abbrev pub IsFaultText : Option Files → Verb → List ℕ → Type 0
IsFaultText told (Route names) text =
    (text ≡ read_fault_line)
    ⊎ ((taken : List ℕ) × (more : List ℕ) × IsFile told names.commands (taken ++ more) × IsHaltedText told names taken read_fault_line text)
IsFaultText told asked text = text ≡ read_fault_line

-- the whole text where a file is too large: of a run whose command file is, the commands whose lines ended within the limit are answered
abbrev pub IsLargeText : Option Files → Verb → List ℕ → Type 0
IsLargeText told (Route names) text =
    (IsLonger told names.airport airport_limit × (text ≡ too_large_line))
    ⊎ ((file : List ℕ) × IsFile told names.commands file × (commands_limit < length file) × IsHaltedText told names file too_large_line text)
IsLargeText told asked text = IsTooLarge told asked × (text ≡ too_large_line)
