use Rattle.std.proofs.Common.{◌-◌, ◌<◌}
use Rattle.window_rows.specs.Rows.{window_at}
use Rattle.window_rows.proofs.near.first_on.Given as goal

abbrev pub invariant-loop-place : goal.invariant-loop-place
invariant-loop-place l = (window_at l.row (l.place - 1)).until < l.second
