use Rattle.std.proofs.Common.{arith}
use Rattle.label_queue.proofs.EntryKeys.{no_entries}
use Rattle.label_queue.proofs.Changes.{no-heap}
use Rattle.label_queue.proofs.queue.LabelQueue.new.Goals as goal

pub invariant_of-result : goal.invariant_of-result
invariant_of-result c =
    let heap = c.in_ok-heap in
    rw heap.ensures.items (no-heap, no_entries c.args.limit, omega (arith, heap.ensures.capacity), omega (arith, c.if-limit-gt-LABELS.false), omega (arith, c.in_ok-places.ensures.capacity), tt)
