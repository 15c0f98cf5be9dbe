use Rattle.std.proofs.Common.{◌≡◌, ◌-◌, ◌<◌, ◌≤◌, length}
use Rattle.interval_list.specs.Cells.{place_of, node_of}
use Rattle.interval_list.proofs.edits.first_beyond_from_first.Given as goal

abbrev pub invariant-loop-index : goal.invariant-loop-index
invariant-loop-index l =
    (l.index ≤ length l.windows)
    × (l.index < length l.windows → l.place.at ≡ place_of l.windows l.index)
    × (0 < l.index → l.prev.at ≡ place_of l.windows (l.index - 1))
    × (0 < l.index → (node_of l.windows (l.index - 1)).window.until ≤ l.second)

abbrev pub decreases-loop-index : goal.decreases-loop-index
decreases-loop-index l = length l.windows - l.index
