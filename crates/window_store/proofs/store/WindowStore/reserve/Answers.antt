use Rattle.std.proofs.Common.{◌≡◌, List, length, sym, subst}
use Rattle.window_store.specs.Spans.{Listed}
use Rattle.window_store.specs.Store.{Store, of_lists_and_ids, IsStore, HaveRoom, EndBy}
use Rattle.window_store.specs.Stands.{StandsFor, HasRoomFor}
use Rattle.window_store.specs.Kept.{GainsRoom, DrawsWhatIsLacking}
use Rattle.window_store.specs.Beside.{HasRoomBeside}
use Rattle.window_store.specs.Edits.{of_lists}
use Rattle.window_store.specs.Counts.{GainsNodesFor}
use Rattle.std.specs.Prelude.{OnOk}
use Rattle.window_store.proofs.Wholes.{written, reserved-ends, reserved-room, reserved-stands, GainsRoom-whole, DrawsWhatIsLacking-whole}
use Rattle.window_store.proofs.store.WindowStore.reserve.Goals as goal

pub invariant_of-self : goal.invariant_of-self
invariant_of-self g c =
    let old : List Listed = c.self.inside.lists.items in
    let new : List Listed = c.make_room.new.lists in
    let next = c.self.inside.ids.next in
    let more = c.make_room.new.ids.next in
    let made : GainsNodesFor c.args.conflicts.now.sets c.args.steps.now (of_lists_and_ids old next) (of_lists_and_ids new more) = rw c.as_mut_slice-lists.ensures.value at c.make_room.ensures.gained in
    let back = sym (written c.self.inside.lists new made.gained.lists) in
    subst (λ (lists : List Listed). IsStore (of_lists_and_ids lists more) × HaveRoom lists × EndBy c.self.inside.horizon lists × (length c.make_room.new.counts ≡ length lists)) back (
      made.store,
      reserved-room old new next more made.gained c.self.invariant.1,
      reserved-ends old new next more made.gained c.self.inside.horizon c.self.invariant.2,
      c.make_room.ensures.counts,
    )

pub returns-clause-room : goal.returns-clause-room
returns-clause-room g c =
    let old : List Listed = c.self.inside.lists.items in
    let new : List Listed = c.make_room.new.lists in
    let next = c.self.inside.ids.next in
    let more = c.make_room.new.ids.next in
    let made : GainsNodesFor c.args.conflicts.now.sets c.args.steps.now (of_lists_and_ids old next) (of_lists_and_ids new more) = rw c.as_mut_slice-lists.ensures.value at c.make_room.ensures.gained in
    let back = sym (written c.self.inside.lists new made.gained.lists) in
    subst (λ (lists : List Listed). OnOk c.make_room.result (HasRoomFor c.args.conflicts.now.sets c.args.steps.now (of_lists lists))) back c.make_room.ensures.room

pub returns-clause-gained : goal.returns-clause-gained
returns-clause-gained g c =
    let old : List Listed = c.self.inside.lists.items in
    let new : List Listed = c.make_room.new.lists in
    let next = c.self.inside.ids.next in
    let more = c.make_room.new.ids.next in
    let made : GainsNodesFor c.args.conflicts.now.sets c.args.steps.now (of_lists_and_ids old next) (of_lists_and_ids new more) = rw c.as_mut_slice-lists.ensures.value at c.make_room.ensures.gained in
    let back = sym (written c.self.inside.lists new made.gained.lists) in
    rw (← c.self.view_is)
    (subst (λ (lists : List Listed). GainsRoom (record { lists = old; next = next; horizon = c.self.inside.horizon }) (record { lists = lists; next = more; horizon = c.self.inside.horizon })) back
    (GainsRoom-whole old new next more c.self.inside.horizon made.gained))

pub returns-clause-lacking : goal.returns-clause-lacking
returns-clause-lacking g c =
    let old : List Listed = c.self.inside.lists.items in
    let new : List Listed = c.make_room.new.lists in
    let next = c.self.inside.ids.next in
    let more = c.make_room.new.ids.next in
    let made : GainsNodesFor c.args.conflicts.now.sets c.args.steps.now (of_lists_and_ids old next) (of_lists_and_ids new more) = rw c.as_mut_slice-lists.ensures.value at c.make_room.ensures.gained in
    let back = sym (written c.self.inside.lists new made.gained.lists) in
    rw (← c.self.view_is)
    (subst (λ (lists : List Listed). DrawsWhatIsLacking c.args.conflicts.now.sets c.args.steps.now (record { lists = old; next = next; horizon = c.self.inside.horizon }) (record { lists = lists; next = more; horizon = c.self.inside.horizon })) back
    (DrawsWhatIsLacking-whole c.args.conflicts.now.sets c.args.steps.now old new next more c.self.inside.horizon made.lacking))

pub returns-clause-stands : goal.returns-clause-stands
returns-clause-stands g c horizon holds stands =
    let old : List Listed = c.self.inside.lists.items in
    let new : List Listed = c.make_room.new.lists in
    let next = c.self.inside.ids.next in
    let more = c.make_room.new.ids.next in
    let made : GainsNodesFor c.args.conflicts.now.sets c.args.steps.now (of_lists_and_ids old next) (of_lists_and_ids new more) = rw c.as_mut_slice-lists.ensures.value at c.make_room.ensures.gained in
    let back = sym (written c.self.inside.lists new made.gained.lists) in
    subst (λ (lists : List Listed). StandsFor c.args.conflicts.now.sets horizon holds (of_lists lists)) back
    (reserved-stands old new next more made.gained c.args.conflicts.now.sets horizon holds (subst (λ (store : Store). StandsFor c.args.conflicts.now.sets horizon holds store) (sym c.self.view_is) stands))

pub make_room-requires-clause-beside : goal.make_room-requires-clause-beside
make_room-requires-clause-beside g c = rw c.as_mut_slice-lists.ensures.value (rw (← c.self.view_is) at c.requires.beside)

pub returns-clause-beside : goal.returns-clause-beside
returns-clause-beside g c =
    let old : List Listed = c.self.inside.lists.items in
    let new : List Listed = c.make_room.new.lists in
    let made : GainsNodesFor c.args.conflicts.now.sets c.args.steps.now (of_lists_and_ids old c.self.inside.ids.next) (of_lists_and_ids new c.make_room.new.ids.next) = rw c.as_mut_slice-lists.ensures.value at c.make_room.ensures.gained in
    subst (HasRoomBeside (g.B.RoomBeside.segments c.make_room.new.beside) (g.B.RoomBeside.room c.make_room.new.beside)) (sym (written c.self.inside.lists new made.gained.lists)) c.make_room.ensures.beside
