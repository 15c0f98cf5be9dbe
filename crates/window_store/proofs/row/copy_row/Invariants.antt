use Rattle.std.proofs.Common.{◌≡◌, ◌+◌, ◌++◌, length}
use Rattle.std.specs.Prelude.{vec_capacity}
use Rattle.interval_list.specs.Intervals.{spans_of}
use Rattle.window_store.proofs.row.copy_row.Given as goal

-- the spans so far and those of the windows that are left are those of all windows
abbrev pub invariant-loop-window : goal.invariant-loop-window
invariant-loop-window l =
    (l.row.items ++ spans_of l.window-iterator ≡ spans_of l.intervals.windows)
    × (length l.row.items + length l.window-iterator ≡ length l.intervals.windows)
    × (vec_capacity l.row ≡ vec_capacity l.fn.row)
