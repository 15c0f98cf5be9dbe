use Rattle.std.proofs.Common.{◌≡◌, ◌<◌, ◌∷◌, List, None, length, ap, ◌∙◌, arith}
use Rattle.std.specs.List.Sorted.{IsPermutation}
use Rattle.std.proofs.lemmas.List.{take_at}
use Rattle.label_queue.specs.Entry.{Entry}
use Rattle.label_queue.specs.declared.heap.First.TheVariants.{Least}
use Rattle.label_queue.specs.First.{entries_by}
use Rattle.label_queue.specs.Entries.{keys_of, AreDistinct}
use Rattle.label_queue.specs.Keys.{key_of, lowered}
use Rattle.label_queue.proofs.EntryKeys.{length-le, absent-entry}
use Rattle.label_queue.proofs.Changes.{label-in, ordered-distinct, ordered-keys, room_to_add, added-distinct, added-keys}
use Rattle.label_queue.proofs.Placing.{places-added, kept-true, kept-false, now_kept, still_kept}
use Rattle.label_queue.proofs.queue.LabelQueue.insert_among.Goals as goal
use Rattle.label_queue.proofs.queue.LabelQueue.insert_among.Goals.{After-new-entry}

-- once the heap is in order its labels differ, and its keys are the same
distinct : (c : After-new-entry) → AreDistinct c.self.inside.limit c.put_in_order.new.heap.items
distinct c = ordered-distinct c.self.inside.limit c.self.inside.first c.self.inside.heap.items _ c.self.invariant.1 c.put_in_order.ensures.entries

same : (c : After-new-entry) → keys_of c.self.inside.limit c.put_in_order.new.heap.items ≡ c.args.self.now
same c = ordered-keys c.self.inside.limit c.self.inside.first c.self.inside.heap.items _ c.self.invariant.1 c.put_in_order.ensures.entries ∙ c.self.view_is

label_is : (c : After-new-entry) → c.new-entry.result.label ≡ c.args.label
label_is c = ap (λ (e : Entry). e.label) c.new-entry.ensures

below : (c : After-new-entry) → c.new-entry.result.label < c.self.inside.limit
below c = omega (arith, label_is c, label-in c.self.inside.limit c.args.label (entries_by c.self.inside.first c.self.inside.heap.items) c.args.self.now c.self.view_is c.requires.within)

none : (c : After-new-entry) → key_of (keys_of c.self.inside.limit c.put_in_order.new.heap.items) c.new-entry.result.label ≡ None
none c = (λ i. key_of (same c i) (label_is c i)) ∙ c.requires.absent

room : (c : After-new-entry) → length c.put_in_order.new.heap.items < c.self.inside.limit
room c =
    let heap = c.put_in_order.new.heap.items in
    room_to_add c.self.inside.limit heap heap c.new-entry.result (below c) (none c) (distinct c)

-- the rest of the invariant where the entry came
module _ (c : After-new-entry) (now : List Entry) (added : IsPermutation (c.new-entry.result ∷ c.put_in_order.new.heap.items) now) where
  now-distinct : AreDistinct c.self.inside.limit now
  now-distinct = added-distinct c.self.inside.limit c.put_in_order.new.heap.items now c.new-entry.result (below c) (none c) (distinct c) added

  now-keys : keys_of c.self.inside.limit now ≡ lowered c.args.self.now c.args.label c.args.key
  now-keys =
      added-keys c.self.inside.limit c.put_in_order.new.heap.items now c.new-entry.result (below c) (none c) (distinct c) added
      ∙ (λ i. lowered (same c i) (label_is c i) (ap (λ (e : Entry). e.key) c.new-entry.ensures i))

pub put_in_order-requires-clause-small : goal.put_in_order-requires-clause-small
put_in_order-requires-clause-small c = omega (arith, length-le c.self.inside.limit c.self.inside.heap.items c.self.invariant.1, c.self.invariant.3)

pub overflow_cast-label : goal.overflow_cast-label
overflow_cast-label c =
    omega (arith, label-in c.self.inside.limit c.args.label (entries_by c.self.inside.first c.self.inside.heap.items) c.args.self.now c.self.view_is c.requires.within, c.self.invariant.3)

-- ---- places are kept

pub add-requires-clause-room : goal.add-requires-clause-room
add-requires-clause-room c =
    let at = (goal.at.add-requires-clause-room c).After-new-entry in
    omega (arith, room at, c.put_in_order.ensures.capacity, c.self.invariant.2, c.put_in_order.new.heap.ok.0)

pub add-requires-clause-small : goal.add-requires-clause-small
add-requires-clause-small c =
    let at = (goal.at.add-requires-clause-small c).After-new-entry in
    omega (arith, room at, c.self.invariant.3, c.put_in_order.new.heap.ok.0)

pub add-requires-clause-places : goal.add-requires-clause-places
add-requires-clause-places c =
    let at = (goal.at.add-requires-clause-places c).After-new-entry in
    let heap = c.put_in_order.new.heap in
    let e = c.new-entry.result in
    let still = still_kept c.self.inside.limit c.self.inside.keeps_places c.self.inside.first c.self.inside.places.items c.self.inside.heap.items heap.items c.put_in_order.ensures.least c.self.invariant.5 in
    let kept = (kept-true c.self.inside.limit c.self.inside.keeps_places Least c.self.inside.places.items heap.items c.if-self.true still).2 in
    let put = places-added heap.items c.self.inside.places.items e kept (absent-entry c.self.inside.limit heap.items (distinct at) e.label (none at)) in
    rw (c.deref_mut.ensures.value, heap.ok.0) put

pub invariant_of-self : goal.invariant_of-self
invariant_of-self c =
    let at = (goal.at.invariant_of-self c).After-new-entry in
    let heap = c.put_in_order.new.heap.items in
    let still = still_kept c.self.inside.limit c.self.inside.keeps_places c.self.inside.first c.self.inside.places.items c.self.inside.heap.items heap c.put_in_order.ensures.least c.self.invariant.5 in
    let long = (kept-true c.self.inside.limit c.self.inside.keeps_places Least c.self.inside.places.items heap c.if-self.true still).1 in
    rw (take_at c.add.new.places _ _ (c.add.auto.places ∙ c.deref_mut.ensures.len)) (
      c.add.ensures.heap,
      now-distinct at c.add.new.heap.items c.add.ensures.entries,
      omega (arith, c.add.ensures.capacity, c.put_in_order.ensures.capacity, c.self.invariant.2),
      c.self.invariant.3,
      c.self.invariant.4,
      now_kept c.self.inside.limit c.self.inside.keeps_places c.add.new.places c.add.new.heap.items c.if-self.true
          (omega (arith, c.add.auto.places, ap length c.deref_mut.ensures.value, long)) c.add.ensures.places,
    )

pub returns-then-self : goal.returns-then-self
returns-then-self c = now-keys (goal.at.returns-then-self c).After-new-entry c.add.new.heap.items c.add.ensures.entries

-- ---- none are kept

pub add-requires-else-self-clause-room : goal.add-requires-else-self-clause-room
add-requires-else-self-clause-room c =
    let at = (goal.at.add-requires-else-self-clause-room c).After-new-entry in
    omega (arith, room at, c.put_in_order.ensures.capacity, c.self.invariant.2, c.put_in_order.new.heap.ok.0)

pub add-requires-else-self-clause-small : goal.add-requires-else-self-clause-small
add-requires-else-self-clause-small c =
    let at = (goal.at.add-requires-else-self-clause-small c).After-new-entry in
    omega (arith, room at, c.self.invariant.3, c.put_in_order.new.heap.ok.0)

pub invariant_of-self-else-self : goal.invariant_of-self-else-self
invariant_of-self-else-self c =
    let at = (goal.at.invariant_of-self-else-self c).After-new-entry in (
      c.add-else-self.ensures.heap,
      now-distinct at c.add-else-self.new.heap.items c.add-else-self.ensures.entries,
      omega (arith, c.add-else-self.ensures.capacity, c.put_in_order.ensures.capacity, c.self.invariant.2),
      c.self.invariant.3,
      c.self.invariant.4,
      kept-false c.self.inside.limit c.self.inside.keeps_places Least c.self.inside.places.items c.add-else-self.new.heap.items c.if-self.false,
    )

pub returns-else-self : goal.returns-else-self
returns-else-self c = now-keys (goal.at.returns-else-self c).After-new-entry c.add-else-self.new.heap.items c.add-else-self.ensures.entries
