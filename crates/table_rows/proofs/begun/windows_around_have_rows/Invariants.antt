use Rattle.std.proofs.Common.{◌≡◌, All, take}
use Rattle.taxi_base.specs.Walks.{Conditions}
use Rattle.table_rows.specs.declared.reach.Way.TheVariants.{Forward}
use Rattle.table_rows.specs.HasRows.{HasEach}
use Rattle.table_rows.specs.Limits.{limits_of}
use Rattle.table_rows.specs.Reached.{IsAround}
use Rattle.table_rows.proofs.begun.windows_around_have_rows.Given as goal

abbrev pub invariant-loop-window : goal.invariant-loop-window
invariant-loop-window l =
    (c : Conditions) → l.limits ≡ limits_of c → All (λ w. HasEach Forward (IsAround c l.begun l.value w) l.table.bound l.table.rows.now) (take l.window-index l.windows)
