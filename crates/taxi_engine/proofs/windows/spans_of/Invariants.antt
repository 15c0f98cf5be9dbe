use Rattle.std.proofs.Common.{◌≡◌, ◌++◌}
use Rattle.interval_list.specs.Intervals.{spans_of}
use Rattle.window_store.specs.Store.{spans_at}
use Rattle.taxi_engine.proofs.windows.spans_of.Given as goal

abbrev pub invariant-loop-window : goal.invariant-loop-window
invariant-loop-window l = l.spans ++ spans_of l.window-iterator ≡ spans_at l.fn.store l.fn.segment
