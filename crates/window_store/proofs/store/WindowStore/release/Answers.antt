use Rattle.std.proofs.Common.{◌≡◌, ◌∙◌, List, length, sym, subst}
use Rattle.taxi_base.specs.Windows.{Hold, holds_of}
use Rattle.window_store.specs.Spans.{Listed}
use Rattle.window_store.specs.Store.{of_lists_and_ids, IsStore, HaveRoom, EndBy}
use Rattle.window_store.specs.Stands.{StandsFor, HasRoomFor}
use Rattle.window_store.specs.Kept.{KeepsWindows, KeepsNodes, IsClearOf}
use Rattle.window_store.specs.Edits.{of_lists, AreReleased}
use Rattle.window_store.proofs.Wholes.{written, IsStore-kept, KeepsNodes-kept, KeepsNodes-whole, room-standing, ends-standing, released-all, released-kept, released-room}
use Rattle.window_store.proofs.store.WindowStore.release.Goals as goal

pub release_steps-requires-clause-in_time : goal.release_steps-requires-clause-in_time
release_steps-requires-clause-in_time g c = rw (← c.self.view_is) at c.requires.in_time

pub release_steps-requires-clause-stands : goal.release_steps-requires-clause-stands
release_steps-requires-clause-stands g c = rw c.deref_mut.ensures.value (rw (← c.self.view_is) at c.requires.stands)

pub invariant_of-self : goal.invariant_of-self
invariant_of-self g c =
    let old : List Listed = c.self.inside.lists.items in
    let new : List Listed = c.release_steps.new.lists in
    let rest : List Hold = g.R.OtherHolds.holds c.args.remaining.now in
    let released : AreReleased c.args.conflicts.now.sets c.self.inside.horizon c.args.clearance rest c.args.steps.now (length c.args.steps.now) old new = rw c.deref_mut.ensures.value at c.release_steps.ensures in
    let back = sym (written c.self.inside.lists new released.owned.as_many) in
    let some = rw (← c.self.view_is) at c.requires.stands in
    let stands = released-all c.self.inside.horizon c.args.clearance c.args.conflicts.now.sets rest c.args.steps.now old new released some in
    subst (λ (lists : List Listed). IsStore (of_lists_and_ids lists c.self.inside.ids.next) × HaveRoom lists × EndBy c.self.inside.horizon lists × (length c.self.inside.counts ≡ length lists)) back (
      IsStore-kept old new c.self.inside.ids.next c.self.invariant.0 released.owned,
      room-standing c.args.conflicts.now.sets c.self.inside.horizon rest new stands,
      ends-standing c.args.conflicts.now.sets c.self.inside.horizon rest new stands,
      c.self.invariant.3 ∙ sym released.owned.as_many,
    )

pub returns-clause-stands : goal.returns-clause-stands
returns-clause-stands g c =
    let old : List Listed = c.self.inside.lists.items in
    let new : List Listed = c.release_steps.new.lists in
    let rest : List Hold = g.R.OtherHolds.holds c.args.remaining.now in
    let released : AreReleased c.args.conflicts.now.sets c.self.inside.horizon c.args.clearance rest c.args.steps.now (length c.args.steps.now) old new = rw c.deref_mut.ensures.value at c.release_steps.ensures in
    let back = sym (written c.self.inside.lists new released.owned.as_many) in
    let some = rw (← c.self.view_is) at c.requires.stands in
    rw (← c.self.view_is) (subst (λ (lists : List Listed). StandsFor c.args.conflicts.now.sets c.self.inside.horizon rest (of_lists lists)) back (released-all c.self.inside.horizon c.args.clearance c.args.conflicts.now.sets rest c.args.steps.now old new released some))

pub returns-clause-room : goal.returns-clause-room
returns-clause-room g c =
    let old : List Listed = c.self.inside.lists.items in
    let new : List Listed = c.release_steps.new.lists in
    let rest : List Hold = g.R.OtherHolds.holds c.args.remaining.now in
    let released : AreReleased c.args.conflicts.now.sets c.self.inside.horizon c.args.clearance rest c.args.steps.now (length c.args.steps.now) old new = rw c.deref_mut.ensures.value at c.release_steps.ensures in
    let back = sym (written c.self.inside.lists new released.owned.as_many) in
    let some = rw (← c.self.view_is) at c.requires.stands in
    subst (λ (lists : List Listed). HasRoomFor c.args.conflicts.now.sets c.args.steps.now (of_lists lists)) back (released-room c.self.inside.horizon c.args.clearance c.args.conflicts.now.sets rest c.args.steps.now old new released some)

pub returns-clause-kept : goal.returns-clause-kept
returns-clause-kept g c =
    let old : List Listed = c.self.inside.lists.items in
    let new : List Listed = c.release_steps.new.lists in
    let rest : List Hold = g.R.OtherHolds.holds c.args.remaining.now in
    let released : AreReleased c.args.conflicts.now.sets c.self.inside.horizon c.args.clearance rest c.args.steps.now (length c.args.steps.now) old new = rw c.deref_mut.ensures.value at c.release_steps.ensures in
    let back = sym (written c.self.inside.lists new released.owned.as_many) in
    rw (← c.self.view_is)
    (subst (λ (lists : List Listed). KeepsWindows IsClearOf c.args.conflicts.now.sets (holds_of c.self.inside.horizon c.args.clearance c.args.steps.now) (of_lists old) (of_lists lists)) back (released-kept c.self.inside.horizon c.args.clearance c.args.conflicts.now.sets rest c.args.steps.now old new released))

pub returns-clause-nodes : goal.returns-clause-nodes
returns-clause-nodes g c =
    let old : List Listed = c.self.inside.lists.items in
    let new : List Listed = c.release_steps.new.lists in
    let rest : List Hold = g.R.OtherHolds.holds c.args.remaining.now in
    let released : AreReleased c.args.conflicts.now.sets c.self.inside.horizon c.args.clearance rest c.args.steps.now (length c.args.steps.now) old new = rw c.deref_mut.ensures.value at c.release_steps.ensures in
    let back = sym (written c.self.inside.lists new released.owned.as_many) in
    let next = c.self.inside.ids.next in
    rw (← c.self.view_is)
    (subst (λ (lists : List Listed). KeepsNodes (record { lists = old; next = next; horizon = c.self.inside.horizon }) (record { lists = lists; next = next; horizon = c.self.inside.horizon })) back
    (KeepsNodes-whole old new next c.self.inside.horizon (KeepsNodes-kept old new next released.owned)))
