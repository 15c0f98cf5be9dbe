use Rattle.std.proofs.Common.{◌≡◌, ◌-◌}
use Rattle.std.specs.Prelude.{vec_capacity}
use Rattle.interval_list.specs.Intervals.{spans_of}
use Rattle.window_store.proofs.Releasing.{IsGivenBackUntil}
use Rattle.window_store.proofs.segment_windows.give_back_unheld.Given as goal

abbrev pub invariant-loop-from : goal.invariant-loop-from
invariant-loop-from g l =
    IsGivenBackUntil l.from l.span (g.H.HeldSeconds.spans l.others) l.fn.intervals l.intervals
    × (l.row.items ≡ spans_of l.intervals.windows)
    × (vec_capacity l.row ≡ vec_capacity l.fn.row)

abbrev pub decreases-loop-from : goal.decreases-loop-from
decreases-loop-from g l = l.span.until - l.from
