use Rattle.std.proofs.Common.{None, length, replicate, ap, sym, ◌∙◌, arith}
use Rattle.label_queue.specs.First.{entries_by}
use Rattle.label_queue.specs.Entries.{keys_of}
use Rattle.label_queue.proofs.EntryKeys.{no_entries, length-keys_of}
use Rattle.label_queue.proofs.Changes.{no-heap}
use Rattle.label_queue.proofs.queue.LabelQueue.clear.Goals as goal

pub invariant_of-self : goal.invariant_of-self
invariant_of-self c =
    let limit = c.self.inside.limit in
    rw c.clear.ensures.items (no-heap, no_entries limit, omega (arith, c.clear.ensures.capacity, c.self.invariant.2), c.self.invariant.3, c.self.invariant.4, tt)

pub returns : goal.returns
returns c =
    let limit = c.self.inside.limit in
    let long = sym (length-keys_of limit (entries_by c.self.inside.first c.self.inside.heap.items)) ∙ ap length c.self.view_is in
    ap (keys_of limit) c.clear.ensures.items ∙ ap (λ n. replicate n None) long
