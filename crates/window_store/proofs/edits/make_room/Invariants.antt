use Rattle.std.proofs.Common.{length, take}
use Rattle.window_store.specs.Store.{of_lists_and_ids}
use Rattle.window_store.specs.Beside.{HasRoomBeside}
use Rattle.window_store.specs.Counts.{HaveRoomFor, GainsNodes}
use Rattle.window_store.proofs.Counting.{AreCounted}
use Rattle.window_store.proofs.edits.make_room.Given as goal

abbrev pub invariant-loop-step : goal.invariant-loop-step
invariant-loop-step g l = record {
  counted : AreCounted l.conflicts.sets (take l.step-index l.steps) (length l.initial.lists) l.counts;
  room : HaveRoomFor l.counts l.lists;
  gained : GainsNodes l.counts (of_lists_and_ids l.initial.lists l.initial.ids.next) (of_lists_and_ids l.lists l.ids.next);
  beside : HasRoomBeside (g.B.RoomBeside.segments l.beside) (g.B.RoomBeside.room l.beside) l.lists;
  kept : g.B.RoomBeside.keeps l.initial.beside l.beside;
}
