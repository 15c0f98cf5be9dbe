use Rattle.std.proofs.Common.{take}
use Rattle.check_rows.specs.Cuts.{AreListsCut}
use Rattle.check_rows.proofs.known.cut_lists.Given as goal

abbrev pub invariant-loop-segment : goal.invariant-loop-segment
invariant-loop-segment l = AreListsCut (take l.segment-index l.segments) l.span l.fn.lists.items l.lists.items
