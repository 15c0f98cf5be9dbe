use Rattle.std.proofs.Common.{rules}
use Rattle.std.proofs.lemmas.Fn.{always_returns_same}
use Rattle.taxi_base.specs.Labels.{precedes}
use Rattle.table_rows.proofs.RowLaws.{rows-parted}
use Rattle.table_rows.proofs.table.Table.rows_before.Goals as goal

pub returns-clause-point : goal.returns-clause-point
returns-clause-point c =
    c.partition_point.ensures.partitioned (λ row. precedes row c.args.label) (always_returns_same _ _ _ (λ a r f k. search (rules))) (rows-parted c.args.self.now.rows.now c.args.label c.requires)
