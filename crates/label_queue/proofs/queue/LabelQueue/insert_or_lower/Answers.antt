use Rattle.std.proofs.Common.{◌≡◌, ◌≢◌, ◌<◌, ◌≤◌, ◌^◌, ℕ, List, length, set, true, refl, subst, sym, ap, ◌∙◌, arith}
use Rattle.std.specs.List.Sorted.{IsPermutation}
use Rattle.std.proofs.lemmas.List.{get_or_read, take_at, with_items_is}
use Rattle.std.proofs.lemmas.List.Elements.{All-get_or}
use Rattle.label_queue.specs.Entry.{Entry}
use Rattle.label_queue.specs.Heap.{entry_at, IsHeap}
use Rattle.label_queue.specs.Keys.{lowered}
use Rattle.label_queue.specs.First.{entries_by}
use Rattle.label_queue.specs.declared.heap.First.TheVariants.{Least}
use Rattle.label_queue.specs.Entries.{keys_of, AreDistinct}
use Rattle.label_queue.specs.Places.{ArePlaces, AreKept}
use Rattle.label_queue.proofs.EntryKeys.{length-le, length-keys_of, no_entry-absent, distinct-moved, keys-moved, distinct-rekeyed, keys-lowered, keys-kept}
use Rattle.label_queue.proofs.Changes.{label-in, ordered-distinct, ordered-keys}
use Rattle.label_queue.proofs.Placing.{kept-true, still_kept}
use Rattle.label_queue.proofs.queue.LabelQueue.insert_or_lower.Goals as goal
use Rattle.label_queue.proofs.queue.LabelQueue.insert_or_lower.Goals.{After-put_in_order, After-keep_places, After-key}

-- once the heap is in order its labels differ, and its keys are the same
distinct : (c : After-put_in_order) → AreDistinct c.self.inside.limit c.put_in_order.new.heap.items
distinct c = ordered-distinct c.self.inside.limit c.self.inside.first c.self.inside.heap.items _ c.self.invariant.1 c.put_in_order.ensures.entries

same : (c : After-put_in_order) → keys_of c.self.inside.limit c.put_in_order.new.heap.items ≡ c.args.self.now
same c = ordered-keys c.self.inside.limit c.self.inside.first c.self.inside.heap.items _ c.self.invariant.1 c.put_in_order.ensures.entries ∙ c.self.view_is

few : (c : After-put_in_order) → length c.put_in_order.new.heap.items ≤ c.self.inside.limit
few c = length-le c.self.inside.limit c.put_in_order.new.heap.items (distinct c)

-- the places are kept then
module _ (c : After-keep_places) (at : After-put_in_order) where
  kept : ArePlaces c.keep_places.new.places.items c.put_in_order.new.heap.items
  kept = subst (ArePlaces c.keep_places.new.places.items) c.deref.ensures.value c.keep_places.ensures.places

-- where they were kept before they are those of the heap in order
before : (c : After-put_in_order) → AreKept c.self.inside.limit c.self.inside.keeps_places Least c.self.inside.places.items c.put_in_order.new.heap.items
before c =
    let heap = c.put_in_order.new.heap.items in
    still_kept c.self.inside.limit c.self.inside.keeps_places c.self.inside.first c.self.inside.places.items c.self.inside.heap.items heap c.put_in_order.ensures.least c.self.invariant.5

-- the invariant of what was written over the heap and the places
abbrev IsWhole : (limit cap room : ℕ) (heap : List Entry) (places : List ℕ) → Type 0
IsWhole limit cap room heap places =
    IsHeap heap × AreDistinct limit heap × (limit ≤ cap) × (limit < 2 ^ 32) × (limit ≤ room) × AreKept limit true Least places heap

written_over : (limit cap room : ℕ) (heap lowered : List Entry) (places after : List ℕ) → heap ≡ lowered → places ≡ after → IsWhole limit cap room lowered after
    → IsWhole limit cap room heap places
written_over limit cap room heap lowered places after e f whole =
    subst (λ (h : List Entry). IsWhole limit cap room h places) (sym e) (subst (λ (p : List ℕ). IsWhole limit cap room lowered p) (sym f) whole)

pub put_in_order-requires-clause-small : goal.put_in_order-requires-clause-small
put_in_order-requires-clause-small c = omega (arith, length-le c.self.inside.limit c.self.inside.heap.items c.self.invariant.1, c.self.invariant.3)

pub keep_places-requires-clause-small : goal.keep_places-requires-clause-small
keep_places-requires-clause-small c =
    omega (arith, few (goal.at.keep_places-requires-clause-small c).After-put_in_order, ap length c.deref.ensures.value, c.self.invariant.3)

pub keep_places-requires-clause-distinct : goal.keep_places-requires-clause-distinct
keep_places-requires-clause-distinct c =
    rw c.deref.ensures.value (distinct (goal.at.keep_places-requires-clause-distinct c).After-put_in_order)

pub keep_places-requires-clause-length : goal.keep_places-requires-clause-length
keep_places-requires-clause-length c is =
    let still = before (goal.at.keep_places-requires-clause-length c).After-put_in_order in
    (kept-true c.self.inside.limit c.self.inside.keeps_places Least c.self.inside.places.items c.put_in_order.new.heap.items is still).1

pub keep_places-requires-clause-kept : goal.keep_places-requires-clause-kept
keep_places-requires-clause-kept c is =
    let still = before (goal.at.keep_places-requires-clause-kept c).After-put_in_order in
    rw c.deref.ensures.value (kept-true c.self.inside.limit c.self.inside.keeps_places Least c.self.inside.places.items c.put_in_order.new.heap.items is still).2

pub overflow_cast-label : goal.overflow_cast-label
overflow_cast-label c =
    omega (arith, label-in c.self.inside.limit c.args.label (entries_by c.self.inside.first c.self.inside.heap.items) c.args.self.now c.self.view_is c.requires, c.self.invariant.3)

pub place_of-requires-clause-within : goal.place_of-requires-clause-within
place_of-requires-clause-within c =
    let at = (goal.at.place_of-requires-clause-within c).After-put_in_order in
    let then = (goal.at.place_of-requires-clause-within c).After-keep_places in
    let below = label-in c.self.inside.limit c.args.label (entries_by c.self.inside.first c.self.inside.heap.items) c.args.self.now c.self.view_is c.requires in
    omega (arith, below, ap length c.deref-3.ensures.value, c.keep_places.ensures.length)

pub place_of-requires-clause-places : goal.place_of-requires-clause-places
place_of-requires-clause-places c =
    let at = (goal.at.place_of-requires-clause-places c).After-put_in_order in
    let then = (goal.at.place_of-requires-clause-places c).After-keep_places in
    rw (c.deref-2.ensures.value, c.deref-3.ensures.value) (kept then at)

pub invariant_of-self : goal.invariant_of-self
invariant_of-self c =
    let at = (goal.at.invariant_of-self c).After-put_in_order in
    let then = (goal.at.invariant_of-self c).After-keep_places in
    (c.put_in_order.ensures.heap, distinct at, omega (arith, c.put_in_order.ensures.capacity, c.self.invariant.2), c.self.invariant.3, c.keep_places.ensures.room, (refl, c.keep_places.ensures.length, kept then at))

-- ---- the label isn't there

pub insert_among-requires-clause-within : goal.insert_among-requires-clause-within
insert_among-requires-clause-within c =
    let limit = c.self.inside.limit in
    omega (arith, label-in limit c.args.label (entries_by c.self.inside.first c.self.inside.heap.items) c.args.self.now c.self.view_is c.requires, length-keys_of limit c.put_in_order.new.heap.items)

pub insert_among-requires-clause-absent : goal.insert_among-requires-clause-absent
insert_among-requires-clause-absent c =
    let heap = c.put_in_order.new.heap.items in
    let others = subst (λ (l : List Entry). (at : _) → at < length l → (entry_at l at).label ≢ c.args.label) c.deref-2.ensures.value
    (λ at within. All-get_or (λ (e : Entry). e.label ≢ c.args.label) c.deref-2.result.now at _ within c.in-None.ensures.none) in
    no_entry-absent c.self.inside.limit heap c.args.label others

pub returns-in-None : goal.returns-in-None
returns-in-None c =
    c.insert_among.ensures ∙ ap (λ keys. lowered keys c.args.label c.args.key) (same (goal.at.returns-in-None c).After-put_in_order)

-- ---- the label is there

module _ (c : After-key) where
  abbrev at : ℕ
  at = c.in-Some.at

  abbrev heap : List Entry
  heap = c.put_in_order.new.heap.items

  there : (at < length heap) × ((entry_at heap at).label ≡ c.args.label)
  there = subst (λ (l : List Entry). (at < length l) × ((entry_at l at).label ≡ c.args.label)) c.deref-2.ensures.value c.in-Some.ensures.some

  key_is : c.key.result ≡ (entry_at heap at).key
  key_is = c.key.ensures ∙ ap (λ (e : Entry). e.key) (get_or_read heap at _ there.0 c.index.ensures _)

pub index-requires : goal.index-requires
index-requires c = omega (arith, (subst (λ (l : List Entry). (c.in-Some.at < length l) × ((entry_at l c.in-Some.at).label ≡ c.args.label)) c.deref-2.ensures.value c.in-Some.ensures.some).0, c.put_in_order.new.heap.ok.0)

pub lower-requires-clause-within : goal.lower-requires-clause-within
lower-requires-clause-within c =
    let key_at = (goal.at.lower-requires-clause-within c).After-key in
    omega (arith, (there key_at).0, ap length c.deref_mut.ensures.value)

pub lower-requires-clause-small : goal.lower-requires-clause-small
lower-requires-clause-small c =
    omega (arith, few (goal.at.lower-requires-clause-small c).After-put_in_order, ap length c.deref_mut.ensures.value, c.self.invariant.3)

pub lower-requires-clause-lesser : goal.lower-requires-clause-lesser
lower-requires-clause-lesser c =
    let key_at = (goal.at.lower-requires-clause-lesser c).After-key in
    let same_key = ap (λ (l : List Entry). (entry_at l c.in-Some.at).key) c.deref_mut.ensures.value in
    omega (arith, key_is key_at, c.if-key.true, same_key)

pub lower-requires-clause-places : goal.lower-requires-clause-places
lower-requires-clause-places c =
    let at = (goal.at.lower-requires-clause-places c).After-put_in_order in
    let then = (goal.at.lower-requires-clause-places c).After-keep_places in
    rw (c.deref_mut.ensures.value, c.deref_mut-then-key.ensures.value) (kept then at)

pub invariant_of-self-then-key : goal.invariant_of-self-then-key
invariant_of-self-then-key c =
    let at = (goal.at.invariant_of-self-then-key c).After-put_in_order in
    let then = (goal.at.invariant_of-self-then-key c).After-keep_places in
    let limit = c.self.inside.limit in
    let ordered = c.put_in_order.new.heap.items in
    let rekeyed = distinct-rekeyed limit ordered c.in-Some.at c.args.key (distinct at) in
    let moved = subst (λ (l : List Entry). IsPermutation (set l c.in-Some.at (record { key = c.args.key; label = (entry_at l c.in-Some.at).label })) c.lower.new.heap) c.deref_mut.ensures.value c.lower.ensures.entries in
    let written = ap length c.deref_mut-then-key.ensures.value in
    written_over limit c.put_in_order.new.heap.cap c.keep_places.new.places.cap _ c.lower.new.heap _ c.lower.new.places
    (take_at c.lower.new.heap _ _ (c.lower.auto.heap ∙ c.deref_mut.ensures.len)) (take_at c.lower.new.places _ _ (c.lower.auto.places ∙ c.deref_mut-then-key.ensures.len)) (
      c.lower.ensures.heap,
      distinct-moved limit _ c.lower.new.heap moved rekeyed,
      omega (arith, c.put_in_order.ensures.capacity, c.self.invariant.2),
      c.self.invariant.3,
      c.keep_places.ensures.room,
      (refl, omega (arith, c.lower.auto.places, written, c.keep_places.ensures.length), c.lower.ensures.places),
    )

pub returns-then-key : goal.returns-then-key
returns-then-key c =
    let order_at = (goal.at.returns-then-key c).After-put_in_order in
    let key_at = (goal.at.returns-then-key c).After-key in
    let limit = c.self.inside.limit in
    let ordered = c.put_in_order.new.heap in
    let rekeyed = distinct-rekeyed limit ordered.items c.in-Some.at c.args.key (distinct order_at) in
    let moved = subst (λ (l : List Entry). IsPermutation (set l c.in-Some.at (record { key = c.args.key; label = (entry_at l c.in-Some.at).label })) c.lower.new.heap) c.deref_mut.ensures.value c.lower.ensures.entries in
    let less : c.args.key ≤ (entry_at ordered.items c.in-Some.at).key = omega (arith, key_is key_at, c.if-key.true) in
    ap (keys_of limit) (with_items_is ordered c.lower.new.heap (c.lower.auto.heap ∙ c.deref_mut.ensures.len))
    ∙ keys-moved limit _ c.lower.new.heap moved rekeyed
    ∙ keys-lowered limit ordered.items c.in-Some.at c.args.key (distinct order_at) (there key_at).0 less
    ∙ (λ i. lowered (same order_at i) ((there key_at).1 i) c.args.key)

pub invariant_of-self-else-key : goal.invariant_of-self-else-key
invariant_of-self-else-key c =
    let at = (goal.at.invariant_of-self-else-key c).After-put_in_order in
    let then = (goal.at.invariant_of-self-else-key c).After-keep_places in
    (c.put_in_order.ensures.heap, distinct at, omega (arith, c.put_in_order.ensures.capacity, c.self.invariant.2), c.self.invariant.3, c.keep_places.ensures.room, (refl, c.keep_places.ensures.length, kept then at))

pub returns-else-key : goal.returns-else-key
returns-else-key c =
    let order_at = (goal.at.returns-else-key c).After-put_in_order in
    let key_at = (goal.at.returns-else-key c).After-key in
    let limit = c.self.inside.limit in
    let ordered = c.put_in_order.new.heap in
    let less : (entry_at ordered.items c.in-Some.at).key ≤ c.args.key = omega (arith, key_is key_at, c.if-key.false) in
    keys-kept limit ordered.items c.in-Some.at c.args.key (distinct order_at) (there key_at).0 less ∙ (λ i. lowered (same order_at i) ((there key_at).1 i) c.args.key)
