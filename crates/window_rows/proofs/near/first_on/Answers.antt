use Rattle.std.proofs.Common.{arith}
use Rattle.window_rows.proofs.RowLaws.{first_at}
use Rattle.window_rows.proofs.near.first_on.Goals as goal

pub returns-then-second-row : goal.returns-then-second-row
returns-then-second-row c =
    first_at c.args.row.now c.requires.apart c.args.second c.loop-place.place (omega (arith, c.loop-place-test.true, c.min-end.ensures)) c.if-second-row.true (λ some. c.loop-place.invariant)
