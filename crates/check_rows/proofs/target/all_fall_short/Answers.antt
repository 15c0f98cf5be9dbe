use Rattle.check_rows.specs.Comes.{conditions_at, FallsShort}
use Rattle.check_rows.proofs.LoopLaws.{all-fails, all-holds, all-more, says-no, says-yes, no_row}
use Rattle.table_rows.proofs.EachLaws.{same-test}
use Rattle.check_rows.proofs.RuleLaws.{short-by_rows}
use Rattle.check_rows.proofs.target.all_fall_short.Goals as goal

pub returns-then-not-falls_short : goal.returns-then-not-falls_short
returns-then-not-falls_short c class free =
    same-test
    (all-fails (FallsShort c.args.way (conditions_at c.args.airport.now class free) c.args.nodes.now c.args.table.now.bound) c.args.table.now.rows.now c.loop-row.row-index no_row c.loop-row-test.true
    (says-no _ c.if-not-falls_short.true (c.falls_short.ensures class free)))
    (short-by_rows c.args.way (conditions_at c.args.airport.now class free) c.args.table.now.bound c.args.table.now.rows.now c.args.nodes.now)

pub loop-row-preserved : goal.loop-row-preserved
loop-row-preserved c class free =
    all-more (FallsShort c.args.way (conditions_at c.args.airport.now class free) c.args.nodes.now c.args.table.now.bound) c.args.table.now.rows.now c.loop-row.row-index no_row c.loop-row-test.true
    (c.loop-row.invariant class free) (says-yes _ c.if-not-falls_short.false (c.falls_short.ensures class free))

pub returns : goal.returns
returns c class free =
    same-test (all-holds (FallsShort c.args.way (conditions_at c.args.airport.now class free) c.args.nodes.now c.args.table.now.bound) c.args.table.now.rows.now c.loop-row.row-index c.loop-row-test.false (c.loop-row.invariant class free))
    (short-by_rows c.args.way (conditions_at c.args.airport.now class free) c.args.table.now.bound c.args.table.now.rows.now c.args.nodes.now)
