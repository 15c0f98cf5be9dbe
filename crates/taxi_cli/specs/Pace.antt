-- How much of a run's command file is taken when a block or the last line is written?
pub use Rattle.command_run.specs.Pace.{HaveBegun, HaveBegunFirst, EndsBeforeCommands, commands_left}
use Rattle.command_run.specs.Answered.{Told, LinesAreAnswered, IsPrompt}
use Rattle.command_run.specs.Pace.{KeepsPaceBy}
use Rattle.program_files.specs.declared.status.Status.{Status}
use Rattle.program_words.specs.Verb.{FileNames}
use Rattle.taxi_cli.specs.Endings.{Call}

-- A run answers each command before it takes more of the file. Where reading ends in the command file, exactly the commands are
-- answered whose lines have ended in what was taken. Where a block can't be written whole, the last read is the one in which the line
-- of its command ended.
abbrev pub KeepsPace : Call → FileNames → Told → Status → Type 0
KeepsPace = KeepsPaceBy LinesAreAnswered IsPrompt
