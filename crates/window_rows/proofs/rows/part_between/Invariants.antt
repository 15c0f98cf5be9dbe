use Rattle.std.proofs.Common.{◌-◌, ◌<◌, ◌≤◌, length}
use Rattle.window_rows.specs.Rows.{window_at}
use Rattle.window_rows.proofs.rows.part_between.Given as goal

abbrev pub invariant-loop-until : goal.invariant-loop-until
invariant-loop-until l = (l.first ≤ l.until) × (l.until ≤ length l.row) × (l.first < l.until → (window_at l.row (l.until - 1)).from ≤ l.high)

abbrev pub decreases-loop-until : goal.decreases-loop-until
decreases-loop-until l = length l.row - l.until
