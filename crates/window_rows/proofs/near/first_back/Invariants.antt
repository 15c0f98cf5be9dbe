use Rattle.std.proofs.Common.{◌-◌, ◌≤◌}
use Rattle.window_rows.specs.Rows.{window_at}
use Rattle.window_rows.proofs.near.first_back.Given as goal

abbrev pub invariant-loop-past : goal.invariant-loop-past
invariant-loop-past l = l.second ≤ (window_at l.row (l.near - l.past)).until
