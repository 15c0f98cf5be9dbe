use Rattle.std.proofs.Common.{◌≡◌, ◌∙◌, ◌++◌, List, length, sym, subst}
use Rattle.taxi_base.specs.Windows.{holds_of}
use Rattle.window_store.specs.Spans.{Listed}
use Rattle.window_store.specs.Store.{of_lists_and_ids, IsStore, HaveRoom, EndBy}
use Rattle.window_store.specs.Stands.{StandsFor}
use Rattle.window_store.specs.Kept.{KeepsWindows, KeepsNodes, IsApartFrom}
use Rattle.window_store.specs.Edits.{of_lists, AreHeld}
use Rattle.window_store.proofs.Wholes.{written, IsStore-kept, KeepsNodes-kept, KeepsNodes-whole, room-standing, ends-standing}
use Rattle.window_store.proofs.store.WindowStore.occupy.Goals as goal

pub hold_steps-requires-clause-in_time : goal.hold_steps-requires-clause-in_time
hold_steps-requires-clause-in_time c = rw (← c.self.view_is) at c.requires.in_time

pub hold_steps-requires-clause-stands : goal.hold_steps-requires-clause-stands
hold_steps-requires-clause-stands c = rw c.deref_mut.ensures.value (rw (← c.self.view_is) at c.requires.stands)

pub invariant_of-self : goal.invariant_of-self
invariant_of-self c =
    let old : List Listed = c.self.inside.lists.items in
    let new : List Listed = c.hold_steps.new.lists in
    let held : AreHeld c.args.conflicts.now.sets c.self.inside.horizon c.args.clearance c.args.steps.now old new = rw c.deref_mut.ensures.value at c.hold_steps.ensures in
    let back = sym (written c.self.inside.lists new held.owned.as_many) in
    let some = rw (← c.self.view_is) at c.requires.stands in
    let stands = held.stands some.0 some.1 in
    subst (λ (lists : List Listed). IsStore (of_lists_and_ids lists c.self.inside.ids.next) × HaveRoom lists × EndBy c.self.inside.horizon lists × (length c.self.inside.counts ≡ length lists)) back (
      IsStore-kept old new c.self.inside.ids.next c.self.invariant.0 held.owned,
      room-standing c.args.conflicts.now.sets c.self.inside.horizon (some.0 ++ holds_of c.self.inside.horizon c.args.clearance c.args.steps.now) new stands,
      ends-standing c.args.conflicts.now.sets c.self.inside.horizon (some.0 ++ holds_of c.self.inside.horizon c.args.clearance c.args.steps.now) new stands,
      c.self.invariant.3 ∙ sym held.owned.as_many,
    )

pub returns-clause-stands : goal.returns-clause-stands
returns-clause-stands c =
    let old : List Listed = c.self.inside.lists.items in
    let new : List Listed = c.hold_steps.new.lists in
    let held : AreHeld c.args.conflicts.now.sets c.self.inside.horizon c.args.clearance c.args.steps.now old new = rw c.deref_mut.ensures.value at c.hold_steps.ensures in
    let back = sym (written c.self.inside.lists new held.owned.as_many) in
    rw (← c.self.view_is) (λ holds stands.
    subst (λ (lists : List Listed). StandsFor c.args.conflicts.now.sets c.self.inside.horizon (holds ++ holds_of c.self.inside.horizon c.args.clearance c.args.steps.now) (of_lists lists)) back
    (held.stands holds stands))

pub returns-clause-kept : goal.returns-clause-kept
returns-clause-kept c =
    let old : List Listed = c.self.inside.lists.items in
    let new : List Listed = c.hold_steps.new.lists in
    let held : AreHeld c.args.conflicts.now.sets c.self.inside.horizon c.args.clearance c.args.steps.now old new = rw c.deref_mut.ensures.value at c.hold_steps.ensures in
    let back = sym (written c.self.inside.lists new held.owned.as_many) in
    rw (← c.self.view_is)
    (subst (λ (lists : List Listed). KeepsWindows IsApartFrom c.args.conflicts.now.sets (holds_of c.self.inside.horizon c.args.clearance c.args.steps.now) (of_lists old) (of_lists lists)) back held.kept)

pub returns-clause-nodes : goal.returns-clause-nodes
returns-clause-nodes c =
    let old : List Listed = c.self.inside.lists.items in
    let new : List Listed = c.hold_steps.new.lists in
    let held : AreHeld c.args.conflicts.now.sets c.self.inside.horizon c.args.clearance c.args.steps.now old new = rw c.deref_mut.ensures.value at c.hold_steps.ensures in
    let back = sym (written c.self.inside.lists new held.owned.as_many) in
    let next = c.self.inside.ids.next in
    rw (← c.self.view_is)
    (subst (λ (lists : List Listed). KeepsNodes (record { lists = old; next = next; horizon = c.self.inside.horizon }) (record { lists = lists; next = next; horizon = c.self.inside.horizon })) back
    (KeepsNodes-whole old new next c.self.inside.horizon (KeepsNodes-kept old new next held.owned)))
