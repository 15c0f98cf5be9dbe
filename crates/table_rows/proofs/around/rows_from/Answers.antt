use Rattle.table_rows.proofs.AmongLaws.{part-among}
use Rattle.table_rows.proofs.around.rows_from.Goals as goal

pub returns-then-first-rows : goal.returns-then-first-rows
returns-then-first-rows c = part-among c.args.rows.now c.args.first _
