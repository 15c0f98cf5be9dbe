-- A row by the ends.
use Rattle.packed_rows.proofs.Cuts.{length-rows_from}
use Rattle.packed_rows.proofs.PackedRows.row.Goals as goal

pub row_of-requires-clause-at : goal.row_of-requires-clause-at
row_of-requires-clause-at g c =
    rw (c.deref-2.ensures.value, ← length-rows_from 0 c.self.inside.ends.items c.self.inside.values.items) (rw (← c.self.view_is) at c.requires)

pub row_of-requires-clause-cut : goal.row_of-requires-clause-cut
row_of-requires-clause-cut g c = rw (c.deref-2.ensures.value, c.deref.ensures.value) c.self.invariant

pub returns : goal.returns
returns g c = rw (← c.self.view_is) (rw (c.deref-2.ensures.value, c.deref.ensures.value) at c.row_of.ensures)
