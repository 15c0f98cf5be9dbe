use Rattle.std.proofs.Common.{length}
use Rattle.interval_list.specs.Blocks.{AreAll}
use Rattle.interval_list.proofs.stock.Stock.free.Given as goal

abbrev pub invariant-loop-alloc : goal.invariant-loop-alloc
invariant-loop-alloc l = AreAll l.blocks.blocks l.heads l.nodes.cells

abbrev pub decreases-loop-alloc : goal.decreases-loop-alloc
decreases-loop-alloc l = length l.heads
