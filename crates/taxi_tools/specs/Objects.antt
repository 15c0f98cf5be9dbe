-- What does `json` write of the commands of a file?
use Rattle.std.specs.Prelude.{◌≡◌, ℕ, List, ◌++◌, length, take, Option, Ok}
use Rattle.taxi_base.specs.Airport.{Airport}
use Rattle.taxi_base.specs.State.{State, no_holder}
use Rattle.taxi_text.specs.Lines.{lines_of, commands_of}
use Rattle.taxi_io.specs.Files.{Files}
use Rattle.replies.specs.declared.block.Block.{Block}
use Rattle.transcripts.specs.Runs.{IsRun}
use Rattle.command_run.specs.Ended.{ended_lines_of, ended_commands_of}
use Rattle.command_run.specs.Told.{Telling, all_told}
use Rattle.reply_json.specs.Lines.{object_line, done_line}
use Rattle.program_words.specs.Verb.{FileNames}
use Rattle.program_files.specs.Inputs.{commands_limit, IsJudged, AreAccepted}

-- of each command and its reply an object, on a line of its own
abbrev pub object_of : Telling
object_of airport command block = object_line airport command.command command.line command.text block

-- the objects of a run over all commands, from an airport without flights, and the last line
pub record AreObjects (told : Option Files) (names : FileNames) (text : List ℕ) : Type 0 where
  pub airport : Airport
  pub commands : List ℕ
  pub accepted : AreAccepted told names airport commands
  pub blocks : List Block
  pub after : State
  pub run : IsRun airport no_holder (commands_of commands) blocks after
  pub whole : text ≡ all_told object_of airport (lines_of commands) blocks ++ done_line (length blocks)

-- The airport is accepted, the commands have objects whose lines have ended in these bytes, of which so many count as a command file
-- may have, and then a last line is written.
pub record AreFirstObjects (told : Option Files) (names : FileNames) (bytes last text : List ℕ) : Type 0 where
  pub airport : Airport
  pub accepted : IsJudged told names.airport (Ok airport)
  pub blocks : List Block
  pub after : State
  pub run : IsRun airport no_holder (ended_commands_of (take commands_limit bytes)) blocks after
  pub whole : text ≡ all_told object_of airport (ended_lines_of (take commands_limit bytes)) blocks ++ last
