use Rattle.std.proofs.Common.{◌+◌, ◌-◌, ap, ◌∙◌}
use Rattle.block_reader.specs.Reading.{rows_at}
use Rattle.block_reader.proofs.RowLoop.{with_front, goes_on, fails, is_done}
use Rattle.block_reader.proofs.rows.read_rows.Goals as goal

pub returns-in_default : goal.returns-in_default
returns-in_default g c =
    fails (g.R.Row.row_at c.args.airport.now) c.loop.rows c.args.count c.loop.counter c.loop.rest.now _ c.loop.invariant c.loop-test.true c.in_default.ensures

pub loop-preserved : goal.loop-preserved
loop-preserved g c =
    ap (λ rows. with_front rows (rows_at (g.R.Row.row_at c.args.airport.now) (c.args.count - (c.loop.counter + 1)) c.in-Some.row.1.now)) c.in_ok-push.ensures.ok
    ∙ goes_on (g.R.Row.row_at c.args.airport.now) c.loop.rows c.args.count c.loop.counter c.loop.rest.now _ c.loop.invariant c.loop-test.true _ _ c.in-Some.ensures

pub returns : goal.returns
returns g c =
    is_done (g.R.Row.row_at c.args.airport.now) c.loop.rows c.args.count c.loop.counter c.loop.rest.now _ c.loop.invariant c.loop-test.false
