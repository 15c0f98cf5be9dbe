use Rattle.std.proofs.Common.{◌≡◌, [], length}
use Rattle.commitments.specs.Held.{AreBySegment, all_steps}
use Rattle.commitments.proofs.hold_index.HoldIndex.new.Given as goal

abbrev pub invariant-loop : goal.invariant-loop
invariant-loop l = (length l.lists.items ≡ l.counter) × (all_steps l.lists.items ≡ []) × AreBySegment l.lists.items
