use Rattle.std.proofs.Common.{List, length, drop, All}
use Rattle.taxi_base.specs.Windows.{Hold, holds_of}
use Rattle.taxi_base.specs.Walks.{free_among}
use Rattle.check_rows.specs.Cuts.{IsApart}
use Rattle.check_rows.specs.Known.{AreKnown, HaveMore}
use Rattle.check_rows.specs.Returns.{AreKnownBut}
use Rattle.check_rows.proofs.known.KnownWindows.give_back.Given as goal

-- what the steps to come held is still to be given back
abbrev pub invariant-loop-step : goal.invariant-loop-step
invariant-loop-step g l = record {
  apart : All IsApart l.self.lists.items;
  known : (before : List Hold) → HaveMore (holds_of l.airport.horizon l.clearance l.steps) (g.H.HoldsOf.held l.holds) before → AreKnown (length l.airport.segments) (free_among l.airport before) l.fn.self → AreKnownBut l.airport (g.H.HoldsOf.held l.holds) (holds_of l.airport.horizon l.clearance (drop l.step-index l.steps)) l.self;
}
