use Rattle.std.proofs.Common.{take}
use Rattle.check_rows.specs.Known.{AreStill}
use Rattle.check_rows.proofs.known.KnownWindows.forget.Given as goal

abbrev pub invariant-loop-step : goal.invariant-loop-step
invariant-loop-step l = AreStill l.airport.conflicts (take l.step-index l.steps) l.fn.self.lists.items l.self.lists.items
