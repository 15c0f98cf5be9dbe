use Rattle.std.proofs.Common.{◌-◌, arith}
use Rattle.std.proofs.lemmas.Bool.{leb-true}
use Rattle.window_rows.proofs.RowLaws.{apart_rising}
use Rattle.window_store.proofs.row.end_by.Goals as goal

pub returns-else-count-eq0-clause-yes : goal.returns-else-count-eq0-clause-yes
returns-else-count-eq0-clause-yes c = λ ends k below.
    omega (arith, leb-true _ _ ends, apart_rising c.args.row.now c.requires.apart k (c.args.count - 1) (omega (arith, below)) (omega (arith, below, c.requires.few)))
