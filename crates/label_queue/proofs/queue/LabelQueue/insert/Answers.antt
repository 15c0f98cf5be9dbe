use Rattle.std.proofs.Common.{◌≡◌, ◌<◌, None, ap, ◌∙◌, arith}
use Rattle.label_queue.specs.Entry.{Entry}
use Rattle.label_queue.specs.First.{entries_by}
use Rattle.label_queue.specs.Entries.{keys_of}
use Rattle.label_queue.specs.Keys.{key_of}
use Rattle.label_queue.proofs.Changes.{label-in, first-heap, first-distinct}
use Rattle.label_queue.proofs.Placing.{not_kept}
use Rattle.label_queue.proofs.queue.LabelQueue.insert.Goals as goal
use Rattle.label_queue.proofs.queue.LabelQueue.insert.Goals.{After-new}

label_is : (c : After-new) → c.new.result.label ≡ c.args.label
label_is c = ap (λ (e : Entry). e.label) c.new.ensures

below : (c : After-new) → c.new.result.label < c.self.inside.limit
below c = omega (arith, label_is c, label-in c.self.inside.limit c.args.label (entries_by c.self.inside.first c.self.inside.heap.items) c.args.self.now c.self.view_is c.requires.within)

none : (c : After-new) → key_of (keys_of c.self.inside.limit (entries_by c.self.inside.first c.self.inside.heap.items)) c.new.result.label ≡ None
none c = (λ i. key_of (c.self.view_is i) (label_is c i)) ∙ c.requires.absent

pub overflow_cast-label : goal.overflow_cast-label
overflow_cast-label c =
    omega (arith, label-in c.self.inside.limit c.args.label (entries_by c.self.inside.first c.self.inside.heap.items) c.args.self.now c.self.view_is c.requires.within, c.self.invariant.3)

pub invariant_of-self : goal.invariant_of-self
invariant_of-self c =
    let at = (goal.at.invariant_of-self c).After-new in
    let limit = c.self.inside.limit in
    let first = c.self.inside.first in
    let heap = c.self.inside.heap.items in
    let is = c.in-Taken.is in (
      first-heap limit first heap c.new.result (below at) is (none at) c.self.invariant.0 c.self.invariant.1,
      first-distinct limit first heap c.new.result (below at) is (none at) c.self.invariant.0 c.self.invariant.1,
      c.self.invariant.2,
      c.self.invariant.3,
      c.self.invariant.4,
      not_kept c.self.inside.limit c.self.inside.keeps_places first _ c.self.inside.places.items heap _ is c.self.invariant.5,
    )
