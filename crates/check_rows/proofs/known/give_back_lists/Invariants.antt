use Rattle.std.proofs.Common.{take}
use Rattle.check_rows.specs.Returns.{AreListsBack}
use Rattle.check_rows.proofs.known.give_back_lists.Given as goal

abbrev pub invariant-loop-segment : goal.invariant-loop-segment
invariant-loop-segment g l = AreListsBack l.conflicts.sets (g.H.HoldsOf.held l.holds) (take l.segment-index l.segments) l.span l.fn.lists.items l.lists.items
