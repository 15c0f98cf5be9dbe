use Rattle.std.proofs.Common.{◌≡◌, ℕ, List, get_or, sym, subst, arith}
use Rattle.std.specs.Prelude.{Contains}
use Rattle.std.proofs.lemmas.Option.{get_or_from_slice_get}
use Rattle.taxi_base.specs.declared.rows.Span.{Span}
use Rattle.held_spans.specs.Spans.{rows_at}
use Rattle.check_rows.proofs.LoopLaws.{all-fails, all-more, all-holds, says-no, says-yes}
use Rattle.check_reports.specs.HeldRows.{row_on}
use Rattle.check_reports.proofs.occupied.is_told.Goals as goal

pub returns-then-not-has_row : goal.returns-then-not-has_row
returns-then-not-has_row c =
    let rows = c.args.rows.now in
    let listed = rows_at c.args.spans.now c.args.segment in
    let one = c.row-holder.result in
    let got : get_or listed c.loop-place.place one ≡ one = get_or_from_slice_get listed c.loop-place.place one one c.row-holder.ensures in
    all-fails (λ (x : Span × List ℕ). Contains rows (row_on c.args.segment x)) listed c.loop-place.place one (omega (arith, c.count-place-end.ensures, c.loop-place-test.true))
    (λ there. says-no _ c.if-not-has_row.true c.has_row.ensures
    (subst (Contains rows) (sym c.row_on.ensures) (subst (λ (x : Span × List ℕ). Contains rows (row_on c.args.segment x)) got there)))

pub loop-place-preserved : goal.loop-place-preserved
loop-place-preserved c =
    let rows = c.args.rows.now in
    let listed = rows_at c.args.spans.now c.args.segment in
    let one = c.row-holder.result in
    let got : get_or listed c.loop-place.place one ≡ one = get_or_from_slice_get listed c.loop-place.place one one c.row-holder.ensures in
    all-more (λ (x : Span × List ℕ). Contains rows (row_on c.args.segment x)) listed c.loop-place.place one (omega (arith, c.count-place-end.ensures, c.loop-place-test.true)) c.loop-place.invariant
    (subst (λ (x : Span × List ℕ). Contains rows (row_on c.args.segment x)) (sym got) (subst (Contains rows) c.row_on.ensures (says-yes _ c.if-not-has_row.false c.has_row.ensures)))

pub returns : goal.returns
returns c =
    let listed = rows_at c.args.spans.now c.args.segment in
    all-holds (λ (x : Span × List ℕ). Contains c.args.rows.now (row_on c.args.segment x)) listed c.loop-place.place (omega (arith, c.count-place-end.ensures, c.loop-place-test.false)) c.loop-place.invariant
