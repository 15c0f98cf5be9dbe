use Rattle.std.proofs.Common.{◌≡◌, ◌++◌, List, length, take, drop}
use Rattle.taxi_base.specs.Windows.{holds_of}
use Rattle.held_spans.specs.Spans.{NamedHold, held_by, AreHeldBy, GainsRoom}
use Rattle.held_spans.proofs.spans.HeldSpans.release.Given as goal

abbrev pub invariant-loop-step : goal.invariant-loop-step
invariant-loop-step l = record {
  spans : (holds : List NamedHold) → AreHeldBy (holds ++ held_by l.fn.holder (holds_of l.fn.horizon l.fn.clearance l.fn.steps)) l.fn.self → AreHeldBy (holds ++ held_by l.fn.holder (holds_of l.fn.horizon l.fn.clearance (drop l.step-index l.fn.steps))) l.self;
  room : GainsRoom (take l.step-index l.fn.steps) l.fn.self l.self;
  count : length l.self.lists.items ≡ length l.fn.self.lists.items;
}
