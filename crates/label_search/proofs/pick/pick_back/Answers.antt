use Rattle.std.proofs.Common.{◌≡◌, ◌-◌, refl, sym, ap, subst, arith}
use Rattle.label_core.specs.Walks.{IsEarliestExit}
use Rattle.label_core.specs.Labels.{IsExpansion}
use Rattle.label_core.specs.Picked.{IsFirstBefore}
use Rattle.label_search.specs.declared.cells.Cell.{Cell}
use Rattle.label_search.specs.Labels.{standing}
use Rattle.label_search.specs.Answer.{ComesBefore}
use Rattle.label_search.specs.Standing.{SettledValue}
use Rattle.label_search.specs.declared.pick.Entering.{Entering}
use Rattle.label_search.specs.Entering.{leave_of}
use Rattle.label_search.proofs.Steps.{traced_come_to, traced_inside}
use Rattle.label_search.proofs.Picking.{taken_more, taken_last, at_start_by, going_back_by, in_windows, came_by, first_is_picked}
use Rattle.label_search.proofs.pick.pick_back.Goals as goal

pub start_enter-requires-clause-inside : goal.start_enter-requires-clause-inside
start_enter-requires-clause-inside g c =
    let p = g.C.ForwardCells.problem c.args.cells.now in
    traced_inside p c.requires.sound (SettledValue (standing c.args.labels.now) c.requires.ended.settled) c.back.cell c.back.label (c.requires.ended.traced c.back.cell c.back.label c.back.invariant.labelled)

pub returns-in-Some : goal.returns-in-Some
returns-in-Some g c =
    let p = g.C.ForwardCells.problem c.args.cells.now in
    let e = c.in-Some.ensures.some in
    rw (c.in_ok-push.ensures.items, taken_last)
    (c.back.invariant.so_far _ (at_start_by p.network p.starts ComesBefore (IsEarliestExit p.network p.starts) c.back.cell c.back.label.value c.back.leave c.in-Some.enter e.0 e.1))

pub first_before-cell-requires-clause-windows : goal.first_before-cell-requires-clause-windows
first_before-cell-requires-clause-windows g c = in_windows (g.C.ForwardCells.problem c.args.cells.now) c.requires.sound (standing c.args.labels.now) c.args.goal c.requires.ended

pub first_before-cell-requires-clause-come_to : goal.first_before-cell-requires-clause-come_to
first_before-cell-requires-clause-come_to g c =
    let p = g.C.ForwardCells.problem c.args.cells.now in
    traced_come_to p (SettledValue (standing c.args.labels.now) c.requires.ended.settled) c.back.cell c.back.label (c.requires.ended.traced c.back.cell c.back.label c.back.invariant.labelled)

pub first_before-cell-requires-clause-via : goal.first_before-cell-requires-clause-via
first_before-cell-requires-clause-via g c =
    let p = g.C.ForwardCells.problem c.args.cells.now in
    let label = c.back.label in
    let came = came_by p c.requires.sound (standing c.args.labels.now) c.args.goal c.requires.ended c.back.cell label c.back.invariant.labelled c.back.invariant.by_end c.in_default.ensures.none in
    let to : Entering = record { cell = c.back.cell; from = c.cell-window.result.from; enter = label.value - c.cell-window.result.seconds } in
    let value : leave_of p to ≡ label.value = omega (arith, ap (λ (x : Cell). x.seconds) c.cell-window.ensures, came.2.value) in
    (came.0, came.1, subst (λ n. IsExpansion p.network label.via came.0 c.back.cell n) (sym value) came.2)

pub back-preserved : goal.back-preserved
back-preserved g c =
    let p = g.C.ForwardCells.problem c.args.cells.now in
    let label = c.back.label in
    let before = c.label_at-label-in-back.result in
    let came = came_by p c.requires.sound (standing c.args.labels.now) c.args.goal c.requires.ended c.back.cell label c.back.invariant.labelled c.back.invariant.by_end c.in_default.ensures.none in
    let to : Entering = record { cell = c.back.cell; from = c.cell-window.result.from; enter = label.value - c.cell-window.result.seconds } in
    let value : leave_of p to ≡ label.value = omega (arith, ap (λ (x : Cell). x.seconds) c.cell-window.ensures, came.2.value) in
    let first : IsFirstBefore p.network ComesBefore (IsEarliestExit p.network p.starts) c.back.cell label.value c.first_before-cell.result before.value =
    first_is_picked p c.requires.sound (standing c.args.labels.now) c.args.goal c.requires.ended c.back.cell label c.back.invariant.labelled c.back.invariant.by_end c.in_default.ensures.none
    to c.first_before-cell.result refl value c.first_before-cell.ensures before c.label_at-label-in-back.ensures in
    record {
      so_far = λ rest picked.
          rw (c.in_ok-push-2.ensures.items, taken_more)
          (c.back.invariant.so_far _ (going_back_by p.network p.starts ComesBefore (IsEarliestExit p.network p.starts) c.back.cell c.first_before-cell.result label.value before.value c.back.leave _ rest
          c.in_default.ensures.none first (ap (λ (x : Cell). label.value - x.seconds) c.cell-window.ensures) picked));
      labelled = c.label_at-label-in-back.ensures;
      by_end = omega (arith, first.expands.value, c.back.invariant.by_end);
    }

pub back-smaller : goal.back-smaller
back-smaller g c =
    let p = g.C.ForwardCells.problem c.args.cells.now in
    let label = c.back.label in
    let before = c.label_at-label-in-back.result in
    let came = came_by p c.requires.sound (standing c.args.labels.now) c.args.goal c.requires.ended c.back.cell label c.back.invariant.labelled c.back.invariant.by_end c.in_default.ensures.none in
    let to : Entering = record { cell = c.back.cell; from = c.cell-window.result.from; enter = label.value - c.cell-window.result.seconds } in
    let value : leave_of p to ≡ label.value = omega (arith, ap (λ (x : Cell). x.seconds) c.cell-window.ensures, came.2.value) in
    let first : IsFirstBefore p.network ComesBefore (IsEarliestExit p.network p.starts) c.back.cell label.value c.first_before-cell.result before.value =
    first_is_picked p c.requires.sound (standing c.args.labels.now) c.args.goal c.requires.ended c.back.cell label c.back.invariant.labelled c.back.invariant.by_end c.in_default.ensures.none
    to c.first_before-cell.result refl value c.first_before-cell.ensures before c.label_at-label-in-back.ensures in
    omega (arith, first.expands.value, c.requires.sound.takes c.back.cell)
