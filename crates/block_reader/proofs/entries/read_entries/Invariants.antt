use Rattle.std.proofs.Common.{◌≡◌, ◌-◌}
use Rattle.block_reader.specs.Reading.{rows_at}
use Rattle.block_reader.specs.Blocks.{entry_at}
use Rattle.block_reader.proofs.RowLoop.{with_front}
use Rattle.block_reader.proofs.entries.read_entries.Given as goal

abbrev pub invariant-loop : goal.invariant-loop
invariant-loop l = with_front l.entries (rows_at (entry_at l.airport) (l.count - l.counter) l.rest) ≡ rows_at (entry_at l.airport) l.count l.bytes
