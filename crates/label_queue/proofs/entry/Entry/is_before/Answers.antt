use Rattle.std.proofs.Common.{◌∙◌}
use Rattle.label_queue.specs.Heap.{is_before}
use Rattle.label_queue.proofs.Order.{is_before-ranks}
use Rattle.label_queue.proofs.entry.Entry.is_before.Goals as goal

pub returns : goal.returns
returns c = is_before-ranks c.self.inside.rank c.other.inside.rank ∙ (λ i. is_before (c.self.view_is i) (c.other.view_is i))
