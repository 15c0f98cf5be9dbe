use Rattle.std.proofs.Common.{◌≡◌, ◌+◌, ◌≤◌, ◌++◌, List, length, take}
use Rattle.taxi_base.specs.declared.numbers.Segment.{Segment}
use Rattle.taxi_base.specs.Windows.{holds_of}
use Rattle.held_spans.specs.Spans.{NamedHold, held_by, AreHeldBy, room_at, steps_on}
use Rattle.held_spans.proofs.spans.HeldSpans.hold.Given as goal

abbrev pub invariant-loop-at : goal.invariant-loop-at
invariant-loop-at l = record {
  spans : (holds : List NamedHold) → AreHeldBy holds l.fn.self → AreHeldBy (holds ++ held_by l.fn.holder (holds_of l.fn.horizon l.fn.clearance (take l.at l.fn.steps))) l.self;
  room : (s : Segment) → room_at l.fn.self s ≤ room_at l.self s + steps_on s (take l.at l.fn.steps);
  count : length l.self.lists.items ≡ length l.fn.self.lists.items;
}
