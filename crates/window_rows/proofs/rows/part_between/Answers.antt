use Rattle.std.proofs.Common.{arith}
use Rattle.window_rows.proofs.RowLaws.{cut_at}
use Rattle.window_rows.proofs.rows.part_between.Goals as goal

pub returns-else-row-until : goal.returns-else-row-until
returns-else-row-until c =
    cut_at c.args.row.now c.requires c.args.low c.args.high c.first_not_over-first.result c.loop-until.until c.first_not_over-first.ensures c.loop-until.invariant.0 c.loop-until.invariant.1 c.loop-until.invariant.2
    (λ more. c.if-row-until.false)

-- all of the row has begun
pub returns-after-loop-until : goal.returns-after-loop-until
returns-after-loop-until c =
    cut_at c.args.row.now c.requires c.args.low c.args.high c.first_not_over-first.result c.loop-until.until c.first_not_over-first.ensures c.loop-until.invariant.0 c.loop-until.invariant.1 c.loop-until.invariant.2
    (λ more. absurd (omega (arith, more, c.loop-until-test.false)))
