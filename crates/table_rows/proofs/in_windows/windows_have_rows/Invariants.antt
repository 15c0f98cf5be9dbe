use Rattle.std.proofs.Common.{◌≡◌, All, take}
use Rattle.std.specs.Prelude.{Contains}
use Rattle.taxi_base.specs.Walks.{Conditions}
use Rattle.table_rows.specs.HasRows.{HasEach}
use Rattle.table_rows.specs.Limits.{limits_of}
use Rattle.table_rows.specs.Reached.{IsReachedIn}
use Rattle.table_rows.proofs.in_windows.windows_have_rows.Given as goal

abbrev pub invariant-loop-window : goal.invariant-loop-window
invariant-loop-window l = record {
  near : All (Contains l.table.rows.now) l.rest;
  closed : (c : Conditions) → l.limits ≡ limits_of c → All (λ w. HasEach l.reach.way (IsReachedIn c l.reach l.arc l.seconds w) l.table.bound l.table.rows.now) (take l.window-index l.windows);
}
