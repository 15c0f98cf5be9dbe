-- As many rows as ends.
use Rattle.std.proofs.Common.{rules}
use Rattle.packed_rows.proofs.Cuts.{length-rows_from}
use Rattle.packed_rows.proofs.PackedRows.rows.Goals as goal

pub returns : goal.returns
returns g c = let same = length-rows_from 0 c.self.inside.ends.items c.self.inside.values.items in rw (← c.self.view_is, same) (search rules)
