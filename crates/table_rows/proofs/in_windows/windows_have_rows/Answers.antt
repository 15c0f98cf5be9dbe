use Rattle.taxi_base.specs.declared.rows.Span.{Span}
use Rattle.table_rows.specs.HasRows.{HasEach}
use Rattle.table_rows.specs.Reached.{IsReachedIn}
use Rattle.table_rows.proofs.AmongLaws.{among-part}
use Rattle.table_rows.proofs.LoopLaws.{all-fails, all-holds, all-more, says-no, says-yes}
use Rattle.table_rows.proofs.in_windows.windows_have_rows.Goals as goal

abbrev none : Span
none = record { from = 0; until = 0 }

pub returns-then-not-window_has_row : goal.returns-then-not-window_has_row
returns-then-not-window_has_row c conditions is =
    all-fails (λ w. HasEach c.args.reach.way (IsReachedIn conditions c.args.reach c.args.arc c.args.seconds w) c.args.table.now.bound c.args.table.now.rows.now) c.args.windows.now c.loop-window.window-index none c.loop-window-test.true
    (says-no _ c.if-not-window_has_row.true (c.window_has_row.ensures conditions is))

pub loop-window-preserved : goal.loop-window-preserved
loop-window-preserved c = record {
  near = among-part c.args.table.now.rows.now c.loop-window.rest.now c.rows_behind-rest.result.now c.loop-window.invariant.near c.rows_behind-rest.ensures;
  closed = λ conditions is.
      all-more (λ w. HasEach c.args.reach.way (IsReachedIn conditions c.args.reach c.args.arc c.args.seconds w) c.args.table.now.bound c.args.table.now.rows.now) c.args.windows.now c.loop-window.window-index none c.loop-window-test.true
      (c.loop-window.invariant.closed conditions is) (says-yes _ c.if-not-window_has_row.false (c.window_has_row.ensures conditions is));
}

pub window_has_row-requires-clause-near : goal.window_has_row-requires-clause-near
window_has_row-requires-clause-near c = among-part c.args.table.now.rows.now c.loop-window.rest.now c.rows_behind-rest.result.now c.loop-window.invariant.near c.rows_behind-rest.ensures

pub returns : goal.returns
returns c conditions is =
    all-holds (λ w. HasEach c.args.reach.way (IsReachedIn conditions c.args.reach c.args.arc c.args.seconds w) c.args.table.now.bound c.args.table.now.rows.now) c.args.windows.now c.loop-window.window-index c.loop-window-test.false
    (c.loop-window.invariant.closed conditions is)
