use Rattle.std.proofs.Common.{◌≡◌, ◌≤◌, ◌+◌, length}
use Rattle.airport_rules.specs.Sound.{IsSound}
use Rattle.airport_file.specs.Reading.{judged_after}
use Rattle.airport_file.specs.Rows.{IsReading, rows_left}
use Rattle.airport_file.proofs.read.judge_rows.Given as goal

abbrev pub invariant-rows : goal.invariant-rows
invariant-rows l = record {
  ready : IsReading l.reader;
  few : l.at + length (rows_left l.reader) ≤ 4194305;
  sound : IsSound l.plan;
  so_far : judged_after l.version 1 l.initial.plan (rows_left l.initial.reader) ≡ judged_after l.version l.at l.plan (rows_left l.reader);
}

abbrev pub decreases-rows : goal.decreases-rows
decreases-rows l = length (rows_left l.reader)
