use Rattle.std.proofs.Common.{◌≡◌, All, take}
use Rattle.std.specs.Prelude.{Contains}
use Rattle.taxi_base.specs.Walks.{Conditions}
use Rattle.table_rows.specs.HasRows.{HasEach}
use Rattle.table_rows.specs.Limits.{limits_of}
use Rattle.table_rows.specs.Reached.{IsReachedIn}
use Rattle.table_rows.specs.Served.{IsWithin}
use Rattle.table_rows.proofs.narrowing.stretch_in.Given as goal

abbrev pub invariant-loop-window : goal.invariant-loop-window
invariant-loop-window l = record {
  near : All (Contains l.table.rows.now) l.rest;
  within : IsWithin l.fn.widest l.stretch;
  served : (c : Conditions) → l.limits ≡ limits_of c → All (λ w. HasEach l.stretch.way (IsReachedIn c l.stretch l.arc l.seconds w) l.table.bound l.table.rows.now) (take l.window-index l.windows);
}
