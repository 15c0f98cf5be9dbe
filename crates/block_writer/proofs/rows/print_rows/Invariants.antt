use Rattle.std.proofs.Common.{◌++◌, length}
use Rattle.std.specs.Prelude.{All}
use Rattle.block_writer.specs.Printed.{rows_text}
use Rattle.block_writer.proofs.Pieces.{HasCome}
use Rattle.block_writer.proofs.rows.print_rows.Given as goal

-- the rows that are left can be written, and what comes before them has come
abbrev pub invariant-loop-rest : goal.invariant-loop-rest
invariant-loop-rest g l = record {
  rows : All (g.R.Row.IsWritableRow l.airport) l.rest;
  come : HasCome (l.fn.line ++ rows_text (g.R.Row.words l.fn.airport) l.fn.rows) l.fn.out.items (rows_text (g.R.Row.words l.fn.airport) l.rest) l.out.items;
}

abbrev pub decreases-loop-rest : goal.decreases-loop-rest
decreases-loop-rest g l = length l.rest
