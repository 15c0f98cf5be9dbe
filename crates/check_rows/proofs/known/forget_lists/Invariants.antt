use Rattle.std.proofs.Common.{take}
use Rattle.check_rows.specs.Known.{AreLeft}
use Rattle.check_rows.proofs.known.forget_lists.Given as goal

abbrev pub invariant-loop-segment : goal.invariant-loop-segment
invariant-loop-segment l = AreLeft (take l.segment-index l.segments) l.fn.lists.items l.lists.items
