use Rattle.std.proofs.Common.{◌-◌, ◌≡◌, ◌≤◌, subst, arith}
use Rattle.window_rows.specs.Rows.{window_at}
use Rattle.window_rows.proofs.RowLaws.{first_at}
use Rattle.window_rows.proofs.near.first_back.Goals as goal

pub returns-then-row-near : goal.returns-then-row-near
returns-then-row-near c =
    first_at c.args.row.now c.requires.apart c.args.second (c.args.near - c.loop-past.past) (omega (arith, c.requires.within)) c.loop-past.invariant (λ some. c.if-row-near.true)

-- the first of all is not over
pub returns-then-most-near : goal.returns-then-most-near
returns-then-most-near c =
    let first : c.args.near - c.loop-past.past ≡ 0 = omega (arith, c.loop-past-test.false, c.if-most-near.true) in
    first_at c.args.row.now c.requires.apart c.args.second 0 (omega (arith, c.requires.within)) (subst (λ n. c.args.second ≤ (window_at c.args.row.now n).until) first c.loop-past.invariant)
    (λ some. absurd (omega (arith, some)))
