use Rattle.std.proofs.Common.{◌-◌, ◌≤◌}
use Rattle.window_store.specs.Spans.{nodes}
use Rattle.window_store.specs.Counts.{IsRoomier}
use Rattle.window_store.proofs.segment_windows.SegmentWindows.make_room.Given as goal

abbrev pub invariant-loop-self : goal.invariant-loop-self
invariant-loop-self l = record {
  roomier : IsRoomier l.wanted l.initial.ids.next l.ids.next l.initial.self l.self;
  up : l.initial.ids.next ≤ l.ids.next;
}

abbrev pub decreases-loop-self : goal.decreases-loop-self
decreases-loop-self l = l.wanted - nodes l.self
