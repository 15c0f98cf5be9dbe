use Rattle.std.proofs.Common.{◌≤◌, length, arith}
use Rattle.interval_list.proofs.Handed.{none-left}
use Rattle.interval_list.proofs.stock.Stock.free.Goals as goal

pub drop-requires-2 : goal.drop-requires-2
drop-requires-2 c =
    let heads = c.loop-alloc.heads in
    let none : length heads ≤ 0 = omega (arith, c.loop-alloc-test.false, c.len.ensures) in none-left _ heads c.loop-alloc.nodes.cells c.loop-alloc.invariant none
