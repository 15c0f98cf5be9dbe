use Rattle.taxi_base.specs.declared.rows.Span.{Span}
use Rattle.table_rows.specs.declared.reach.Way.TheVariants.{Forward}
use Rattle.table_rows.specs.HasRows.{HasEach}
use Rattle.table_rows.specs.Reached.{IsAround}
use Rattle.table_rows.proofs.LoopLaws.{all-fails, all-holds, all-more, says-no, says-yes}
use Rattle.table_rows.proofs.begun.windows_around_have_rows.Goals as goal

abbrev none : Span
none = record { from = 0; until = 0 }

pub returns-then-not-window_around_has_row : goal.returns-then-not-window_around_has_row
returns-then-not-window_around_has_row c conditions is =
    all-fails (λ w. HasEach Forward (IsAround conditions c.args.begun c.args.value w) c.args.table.now.bound c.args.table.now.rows.now) c.args.windows.now c.loop-window.window-index none c.loop-window-test.true
    (says-no _ c.if-not-window_around_has_row.true (c.window_around_has_row.ensures conditions is))

pub loop-window-preserved : goal.loop-window-preserved
loop-window-preserved c conditions is =
    all-more (λ w. HasEach Forward (IsAround conditions c.args.begun c.args.value w) c.args.table.now.bound c.args.table.now.rows.now) c.args.windows.now c.loop-window.window-index none c.loop-window-test.true
    (c.loop-window.invariant conditions is) (says-yes _ c.if-not-window_around_has_row.false (c.window_around_has_row.ensures conditions is))

pub returns : goal.returns
returns c conditions is =
    all-holds (λ w. HasEach Forward (IsAround conditions c.args.begun c.args.value w) c.args.table.now.bound c.args.table.now.rows.now) c.args.windows.now c.loop-window.window-index c.loop-window-test.false
    (c.loop-window.invariant conditions is)
