use Rattle.table_rows.proofs.AmongLaws.{part-among}
use Rattle.table_rows.proofs.around.rows_behind.Goals as goal

pub returns-then-ne : goal.returns-then-ne
returns-then-ne c = part-among c.args.rows.now c.loop-place.place _
