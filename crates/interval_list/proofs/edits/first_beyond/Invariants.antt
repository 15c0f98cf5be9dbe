use Rattle.std.proofs.Common.{◌≡◌, ◌-◌, ◌<◌, ◌≤◌, length}
use Rattle.interval_list.specs.Cells.{place_of}
use Rattle.interval_list.proofs.edits.first_beyond.Given as goal

abbrev pub invariant-loop-left : goal.invariant-loop-left
invariant-loop-left l =
    (l.left ≤ length l.windows) × (0 < l.left → l.place.at ≡ place_of l.windows (l.left - 1)) × (l.left < length l.windows → l.beyond.at ≡ place_of l.windows l.left)

abbrev pub decreases-loop-left : goal.decreases-loop-left
decreases-loop-left l = l.left
