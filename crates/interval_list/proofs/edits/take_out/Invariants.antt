use Rattle.std.proofs.Common.{◌≡◌, ◌+◌, ◌-◌, ◌<◌, ◌≤◌, length}
use Rattle.interval_list.specs.Cells.{SameNodes, windows_of, place_of}
use Rattle.interval_list.specs.Intervals.{span, ids_of}
use Rattle.interval_list.proofs.Progress.{IsCutting}
use Rattle.interval_list.proofs.edits.take_out.Given as goal

abbrev pub invariant-loop-i : goal.invariant-loop-i
invariant-loop-i l =
    (l.i ≤ length l.windows)
    × (l.i < length l.windows → l.place.at ≡ place_of l.windows l.i)
    × (length l.windows + length l.spares ≡ length l.initial.windows + length l.initial.spares)
    × SameNodes l.initial.windows l.initial.spares l.windows l.spares
    × IsCutting (span l.from l.until) (windows_of l.initial.windows) (ids_of (windows_of l.initial.spares)) (windows_of l.windows) (ids_of (windows_of l.spares)) l.i

abbrev pub decreases-loop-i : goal.decreases-loop-i
decreases-loop-i l = length l.windows - l.i
