use Rattle.std.proofs.Common.{rules}
use Rattle.std.proofs.lemmas.Fn.{always_returns_same}
use Rattle.taxi_base.specs.Reports.{row_precedes}
use Rattle.check_reports.proofs.OccupiedLaws.{rows-parted}
use Rattle.check_reports.proofs.occupied.rows_before.Goals as goal

pub returns-clause-point : goal.returns-clause-point
returns-clause-point c =
    c.partition_point.ensures.partitioned (λ other. row_precedes other c.args.row.now) (always_returns_same _ _ _ (λ a r f k. search (rules)))
    (rows-parted c.args.rows.now c.args.row.now c.requires)
