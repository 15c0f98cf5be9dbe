use Rattle.std.proofs.lemmas.List.{get_or_default}
use Rattle.table_rows.proofs.table.row_of.Goals as goal

pub returns-then-place-rows : goal.returns-then-place-rows
returns-then-place-rows c = (c.args.place, c.if-place-rows.true, get_or_default c.args.rows.now c.args.place _ _ c.if-place-rows.true)
