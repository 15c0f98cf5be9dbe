use Rattle.std.proofs.Common.{take}
use Rattle.window_store.specs.Store.{of_lists_and_ids}
use Rattle.window_store.specs.Beside.{HasRoomBeside}
use Rattle.window_store.specs.Counts.{times_in, IsCounted, HaveRoomFor, GainsNodes}
use Rattle.window_store.proofs.edits.make_room_for_step.Given as goal

abbrev pub invariant-loop-segment : goal.invariant-loop-segment
invariant-loop-segment g l = record {
  counted : IsCounted (times_in (take l.segment-index l.segment-items)) l.initial.counts l.counts;
  room : HaveRoomFor l.counts l.lists;
  gained : GainsNodes l.counts (of_lists_and_ids l.initial.lists l.initial.ids.next) (of_lists_and_ids l.lists l.ids.next);
  beside : HasRoomBeside (g.B.RoomBeside.segments l.beside) (g.B.RoomBeside.room l.beside) l.lists;
  kept : g.B.RoomBeside.keeps l.initial.beside l.beside;
}
