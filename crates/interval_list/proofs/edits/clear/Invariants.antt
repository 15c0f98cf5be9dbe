use Rattle.std.proofs.Common.{◌≡◌, ◌+◌, ◌-◌, length}
use Rattle.interval_list.specs.Cells.{IsGap, SameNodes, windows_of}
use Rattle.interval_list.specs.Intervals.{span, ids_of}
use Rattle.interval_list.specs.Steps.{merged}
use Rattle.interval_list.proofs.Progress.{IsMerging}
use Rattle.interval_list.proofs.edits.clear.Given as goal

abbrev pub invariant-loop-index : goal.invariant-loop-index
invariant-loop-index l =
    IsGap l.windows l.index l.prev.at l.next.at
    × (length l.windows + length l.spares ≡ length l.initial.windows + length l.initial.spares)
    × SameNodes l.initial.windows l.initial.spares l.windows l.spares
    × IsMerging (windows_of l.initial.windows) (ids_of (windows_of l.initial.spares)) (merged (span l.fn.from l.fn.until) (windows_of l.initial.windows) (ids_of (windows_of l.initial.spares)))
    (span l.from l.until) (windows_of l.windows) (ids_of (windows_of l.spares)) l.index

abbrev pub decreases-loop-index : goal.decreases-loop-index
decreases-loop-index l = length l.windows - l.index
