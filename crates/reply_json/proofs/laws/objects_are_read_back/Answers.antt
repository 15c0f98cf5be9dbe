use Rattle.std.proofs.Common.{arith}
use Rattle.reply_json.specs.Lines.{command_object}
use Rattle.reply_json.proofs.Readable.{text-read, text-one_line}
use Rattle.reply_json.proofs.ReadAgain.{command-read}
use Rattle.reply_json.proofs.laws.objects_are_read_back.Goals as goal

pub returns-clause-value : goal.returns-clause-value
returns-clause-value c = λ airport block command line text is few short.
    text-read (command_object airport command line text block) 5 (omega arith) (command-read airport block command line text is few short)

pub returns-clause-line : goal.returns-clause-line
returns-clause-line c = λ airport block command line text is few short.
    text-one_line (command_object airport command line text block) 5 (command-read airport block command line text is few short)
