use Rattle.std.proofs.Common.{get_or, take, refl, arith}
use Rattle.taxi_base.specs.declared.rows.Span.{Span}
use Rattle.table_rows.specs.HasRows.{HasEach}
use Rattle.table_rows.specs.Reached.{IsReachedIn}
use Rattle.table_rows.proofs.AmongLaws.{among-part}
use Rattle.table_rows.proofs.LoopLaws.{all-more, all-holds}
use Rattle.table_rows.proofs.ServedLaws.{within-refl, within-trans, each_in-within, each-beyond}
use Rattle.table_rows.proofs.narrowing.stretch_in.Goals as goal

abbrev none : Span
none = record { from = 0; until = 0 }

pub loop-window-preserved : goal.loop-window-preserved
loop-window-preserved c = record {
  near = among-part c.args.table.now.rows.now c.loop-window.rest.now c.rows_behind-rest.result.now c.loop-window.invariant.near c.rows_behind-rest.ensures;
  within = within-trans c.args.widest c.loop-window.stretch c.part_served-stretch.result c.loop-window.invariant.within c.part_served-stretch.ensures.within;
  served = λ conditions is.
      let part = c.part_served-stretch.result in
      let rows = c.args.table.now.rows.now in
      let bound = c.args.table.now.bound in
      let so_far = take c.loop-window.window-index c.args.windows.now in
      all-more (λ w. HasEach part.way (IsReachedIn conditions part c.args.arc c.args.seconds w) bound rows) c.args.windows.now c.loop-window.window-index none c.loop-window-test.true
      (λ k d on. each_in-within conditions c.args.arc c.args.seconds (get_or so_far k d) c.loop-window.stretch part bound rows c.part_served-stretch.ensures.within (c.loop-window.invariant.served conditions is k d on))
      (c.part_served-stretch.ensures.served conditions is);
}

pub loop-window-init : goal.loop-window-init
loop-window-init c = record { near = c.requires.near; within = within-refl c.args.widest; served = λ conditions is k d on. absurd (omega (arith, on)) }

pub loop-window-preserved-then-stretch-window : goal.loop-window-preserved-then-stretch-window
loop-window-preserved-then-stretch-window c = record {
  near = c.loop-window.invariant.near;
  within = c.loop-window.invariant.within;
  served = λ conditions is.
      let stretch = c.loop-window.stretch in
      let rows = c.args.table.now.rows.now in
      let bound = c.args.table.now.bound in
      all-more (λ w. HasEach stretch.way (IsReachedIn conditions stretch c.args.arc c.args.seconds w) bound rows) c.args.windows.now c.loop-window.window-index none c.loop-window-test.true
      (c.loop-window.invariant.served conditions is) (each-beyond conditions c.args.arc c.args.seconds (get_or c.args.windows.now c.loop-window.window-index none) stretch bound rows c.if-stretch-window.true);
}

pub part_served-stretch-requires : goal.part_served-stretch-requires
part_served-stretch-requires c = record { near = among-part c.args.table.now.rows.now c.loop-window.rest.now c.rows_behind-rest.result.now c.loop-window.invariant.near c.rows_behind-rest.ensures }

pub returns-clause-served : goal.returns-clause-served
returns-clause-served c conditions is =
    let stretch = c.loop-window.stretch in
    (all-holds (λ w. HasEach stretch.way (IsReachedIn conditions stretch c.args.arc c.args.seconds w) c.args.table.now.bound c.args.table.now.rows.now) c.args.windows.now c.loop-window.window-index c.loop-window-test.false
    (c.loop-window.invariant.served conditions is)).0 refl
