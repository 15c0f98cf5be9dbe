use Rattle.std.proofs.Common.{List, ◌++◌, take, length}
use Rattle.taxi_base.specs.Windows.{Hold, holds_of}
use Rattle.taxi_base.specs.Walks.{free_among}
use Rattle.check_rows.specs.Known.{AreKnown}
use Rattle.check_rows.proofs.known.KnownWindows.cut.Given as goal

abbrev pub invariant-loop-step : goal.invariant-loop-step
invariant-loop-step l =
    (holds : List Hold) → AreKnown (length l.airport.segments) (free_among l.airport holds) l.fn.self
    → AreKnown (length l.airport.segments) (free_among l.airport (holds ++ holds_of l.airport.horizon l.clearance (take l.step-index l.steps))) l.self
