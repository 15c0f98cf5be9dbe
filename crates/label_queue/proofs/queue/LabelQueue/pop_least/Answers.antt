use Rattle.std.proofs.Common.{◌≡◌, ◌<◌, true, length, refl, sym, subst, ap, ◌∙◌, arith}
use Rattle.std.proofs.lemmas.List.{get_or_read, take_at}
use Rattle.std.proofs.lemmas.Bool.{eqb-true}
use Rattle.label_queue.specs.Entries.{keys_of, AreDistinct}
use Rattle.label_queue.specs.Entry.{Entry}
use Rattle.label_queue.specs.Heap.{entry_at}
use Rattle.label_queue.specs.Keys.{IsEmpty, without}
use Rattle.label_queue.specs.Least.{IsLeast}
use Rattle.label_queue.proofs.EntryKeys.{length-le}
use Rattle.label_queue.proofs.Changes.{ordered-distinct, ordered-keys, empty-keys, some-keys, some-by, first-least, taken-keys}
use Rattle.label_queue.specs.Places.{AreKept}
use Rattle.label_queue.specs.declared.heap.First.TheVariants.{Least, Taken}
use Rattle.label_queue.proofs.Placing.{kept-true, kept-false, now_kept, still_kept}
use Rattle.label_queue.proofs.queue.LabelQueue.pop_least.Goals as goal
use Rattle.label_queue.proofs.queue.LabelQueue.pop_least.Goals.{After-put_in_order, After-key, then-self, else-self}

-- once the heap is in order its labels differ, and its keys are the same
distinct : (c : After-put_in_order) → AreDistinct c.self.inside.limit c.put_in_order.new.heap.items
distinct c = ordered-distinct c.self.inside.limit c.self.inside.first c.self.inside.heap.items _ c.self.invariant.1 c.put_in_order.ensures.entries

same : (c : After-put_in_order) → keys_of c.self.inside.limit c.put_in_order.new.heap.items ≡ c.args.self.now
same c = ordered-keys c.self.inside.limit c.self.inside.first c.self.inside.heap.items _ c.self.invariant.1 c.put_in_order.ensures.entries ∙ c.self.view_is

-- and where places are kept they are those of its entries
still : (c : After-put_in_order) → AreKept c.self.inside.limit c.self.inside.keeps_places Least c.self.inside.places.items c.put_in_order.new.heap.items
still c =
    still_kept c.self.inside.limit c.self.inside.keeps_places c.self.inside.first c.self.inside.places.items c.self.inside.heap.items c.put_in_order.new.heap.items c.put_in_order.ensures.least c.self.invariant.5

-- and there is one for each label
long : (c : After-put_in_order) → c.self.inside.keeps_places ≡ true → length c.self.inside.places.items ≡ c.self.inside.limit
long c is = (kept-true c.self.inside.limit c.self.inside.keeps_places Least c.self.inside.places.items c.put_in_order.new.heap.items is (still c)).1

pub put_in_order-requires-clause-small : goal.put_in_order-requires-clause-small
put_in_order-requires-clause-small c = omega (arith, length-le c.self.inside.limit c.self.inside.heap.items c.self.invariant.1, c.self.invariant.3)

pub invariant_of-self : goal.invariant_of-self
invariant_of-self c =
    let at = (goal.at.invariant_of-self c).After-put_in_order in
    (c.put_in_order.ensures.heap, distinct at, omega (arith, c.put_in_order.ensures.capacity, c.self.invariant.2), c.self.invariant.3, c.self.invariant.4, still at)

pub returns-then-is_empty-clause-none : goal.returns-then-is_empty-clause-none
returns-then-is_empty-clause-none c =
    let heap = c.put_in_order.new.heap in
    let empty = eqb-true heap.len 0 (sym c.is_empty.ensures ∙ c.if-is_empty.true) in
    let none : length heap.items ≡ 0 = omega (arith, heap.ok.0) in
    let at = (goal.at.returns-then-is_empty-clause-none c).After-put_in_order in
    (λ _. subst IsEmpty (same at) (empty-keys c.self.inside.limit heap.items none), λ _. refl)

pub returns-then-is_empty-clause-unchanged : goal.returns-then-is_empty-clause-unchanged
returns-then-is_empty-clause-unchanged c = same (goal.at.returns-then-is_empty-clause-unchanged c).After-put_in_order

-- there is a first entry, which is read
some : (c : After-key) → 0 < length c.put_in_order.new.heap.items
some c =
    let heap = c.put_in_order.new.heap in
    let there = some-by heap.len c.is_empty.result c.is_empty.ensures c.if-is_empty.false in
    omega (arith, there, heap.ok.0)

entry_is : (c : After-key) → c.index.result.now ≡ entry_at c.put_in_order.new.heap.items 0
entry_is c = get_or_read c.put_in_order.new.heap.items 0 _ (some c) c.index.ensures _

pub returns-clause-none : goal.returns-clause-none
returns-clause-none c =
    let at = (goal.at.returns-clause-none c).After-put_in_order in
    let there = some (goal.at.returns-clause-none c).After-key in
    (λ e. absurd cc, λ none. absurd (some-keys c.self.inside.limit c.put_in_order.new.heap.items (distinct at) there (subst IsEmpty (sym (same at)) none)))

pub returns-clause-least : goal.returns-clause-least
returns-clause-least c =
    let at = (goal.at.returns-clause-least c).After-put_in_order in
    let heap = c.put_in_order.new.heap.items in
    let key_at = (goal.at.returns-clause-least c).After-key in
    let least = first-least c.self.inside.limit heap (distinct at) c.put_in_order.ensures.heap (some key_at) in
    rw (c.label.ensures, c.key.ensures, entry_is key_at)
    (subst (λ keys. IsLeast keys (entry_at heap 0).label (entry_at heap 0).key) (same at) least)

-- ---- the first entry goes

pub fill_first-requires-clause-small : goal.fill_first-requires-clause-small
fill_first-requires-clause-small c =
    omega (arith, length-le c.self.inside.limit c.put_in_order.new.heap.items (distinct (goal.at.fill_first-requires-clause-small c).After-put_in_order), c.self.invariant.3)

pub fill_first-requires-clause-open : goal.fill_first-requires-clause-open
fill_first-requires-clause-open c =
    let heap = c.put_in_order.new.heap in
    let there = some-by heap.len c.is_empty.result c.is_empty.ensures c.if-is_empty.false in
    record { some = omega (arith, there, heap.ok.0); whole = c.put_in_order.ensures.heap }

pub fill_first-requires-clause-places : goal.fill_first-requires-clause-places
fill_first-requires-clause-places c =
    let heap = c.put_in_order.new.heap.items in
    let kept = still (goal.at.fill_first-requires-clause-places c).After-put_in_order in
    rw c.deref_mut.ensures.value (kept-true c.self.inside.limit c.self.inside.keeps_places Least c.self.inside.places.items heap c.if-self.true kept).2

pub invariant_of-self-then-self : goal.invariant_of-self-then-self
invariant_of-self-then-self c =
    let at = (goal.at.invariant_of-self-then-self c).After-put_in_order in
    let heap = c.put_in_order.new.heap.items in
    let limit = c.self.inside.limit in
    rw (take_at c.fill_first.new.places _ _ (c.fill_first.auto.places ∙ c.deref_mut.ensures.len)) (
      c.fill_first.ensures.heap,
      ordered-distinct limit Taken heap c.fill_first.new.heap.items (distinct at) c.fill_first.ensures.entries,
      omega (arith, c.fill_first.ensures.capacity, c.put_in_order.ensures.capacity, c.self.invariant.2),
      c.self.invariant.3,
      c.self.invariant.4,
      now_kept limit c.self.inside.keeps_places c.fill_first.new.places c.fill_first.new.heap.items c.if-self.true (omega (arith, c.fill_first.auto.places, ap length c.deref_mut.ensures.value, long at c.if-self.true)) c.fill_first.ensures.places,
    )

pub invariant_of-self-else-self : goal.invariant_of-self-else-self
invariant_of-self-else-self c =
    let at = (goal.at.invariant_of-self-else-self c).After-put_in_order in
    let heap = c.put_in_order.new.heap in
    let there = some-by heap.len c.is_empty.result c.is_empty.ensures c.if-is_empty.false in (
      record { some = omega (arith, there, heap.ok.0); whole = c.put_in_order.ensures.heap },
      distinct at,
      omega (arith, c.put_in_order.ensures.capacity, c.self.invariant.2),
      c.self.invariant.3,
      c.self.invariant.4,
      kept-false c.self.inside.limit c.self.inside.keeps_places Taken c.self.inside.places.items heap.items c.if-self.false,
    )

pub returns-clause-taken : goal.returns-clause-taken
returns-clause-taken c =
    let at = (goal.at.returns-clause-taken c).After-put_in_order in
    let key_at = (goal.at.returns-clause-taken c).After-key in
    let heap = c.put_in_order.new.heap.items in
    let limit = c.self.inside.limit in
    let label_is = c.label.ensures ∙ ap (λ (e : Entry). e.label) (entry_is key_at) in
    let taken = taken-keys limit heap (distinct at) (some key_at) ∙ (λ i. without (same at i) (sym label_is i)) in
    elim c.if-self.branch [
      | then-self w ↦ w.self-is ∙ ordered-keys limit Taken heap w.fill_first.new.heap.items (distinct at) w.fill_first.ensures.entries ∙ taken
      | else-self w ↦ w.self-is ∙ taken
    ]
