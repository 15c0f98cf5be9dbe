use Rattle.std.proofs.Common.{◌≡◌, ◌≤◌, ◌+◌, ◌*◌, ◌++◌, length, drop}
use Rattle.block_writer.specs.Printed.{rows_text}
use Rattle.block_writer.proofs.rows.write_rows.Given as goal

-- the rows from here on are written
abbrev pub invariant-loop-at : goal.invariant-loop-at
invariant-loop-at g l = record {
  within : l.at ≤ length l.rows;
  room : length l.line + 96 * l.at ≤ 1536;
  text : l.line ≡ rows_text (g.R.Row.words l.airport) (drop l.at l.rows) ++ l.fn.line;
}

abbrev pub decreases-loop-at : goal.decreases-loop-at
decreases-loop-at g l = l.at
