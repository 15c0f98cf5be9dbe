use Rattle.std.proofs.Common.{◌<◌, ◌^◌, arith}
use Rattle.airport_file.specs.Reading.{records_of}
use Rattle.schedule_import.specs.Schedule.{import_of}
use Rattle.schedule_import.proofs.AnswerLines.{answers-lines, import-commands}
use Rattle.schedule_import.proofs.laws.each_accepted_row_is_one_command.Goals as goal

pub returns : goal.returns
unfolding import_of
returns c = record {
  lines = answers-lines;
  commands = λ airport bytes text rules e. let early : airport.horizon < 10 ^ 7 = omega (arith, rules.horizon) in import-commands airport early (records_of bytes) text e;
}
