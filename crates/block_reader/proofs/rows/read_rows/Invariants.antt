use Rattle.std.proofs.Common.{◌≡◌, ◌-◌}
use Rattle.block_reader.specs.Reading.{rows_at}
use Rattle.block_reader.proofs.RowLoop.{with_front}
use Rattle.block_reader.proofs.rows.read_rows.Given as goal

abbrev pub invariant-loop : goal.invariant-loop
invariant-loop g l = with_front l.rows (rows_at (g.R.Row.row_at l.airport) (l.count - l.counter) l.rest) ≡ rows_at (g.R.Row.row_at l.airport) l.count l.bytes
