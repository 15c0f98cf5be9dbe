use Rattle.std.proofs.Common.{◌≡◌, ◌≤◌, ◌+◌, length, Some}
use Rattle.csv.specs.declared.parser.State.TheVariants as st
use Rattle.airport_rules.specs.Sound.{IsSound}
use Rattle.airport_file.specs.Reading.{judged_after}
use Rattle.airport_file.specs.Rows.{rows_of}
use Rattle.airport_file.proofs.read.judge_lines.Given as goal

abbrev pub invariant-lines : goal.invariant-lines
invariant-lines l = record {
  few : l.last + length l.rest ≤ 4194305;
  sound : IsSound l.plan;
  so_far : judged_after l.version 1 l.initial.plan (rows_of st.StartRecord (Some l.text)) ≡ judged_after l.version l.last l.plan (rows_of st.StartRecord (Some l.rest));
}

abbrev pub decreases-lines : goal.decreases-lines
decreases-lines l = length l.rest
