use Rattle.std.proofs.Common.{◌∙◌, sym, arith}
use Rattle.std.proofs.lemmas.Bool.{false≢true}
use Rattle.check_rows.proofs.LoopLaws.{says-no, says-yes}
use Rattle.checked_state.specs.Flights.{state_of}
use Rattle.certificate_check.specs.Late.{delay_in}
use Rattle.certificate_check.proofs.LateForm.{all-due, told-first, told-some, told-order, told-named, told-from}
use Rattle.certificate_check.proofs.late_form.tell_in_turn.Goals as goal

pub returns-then-not-is_told_first : goal.returns-then-not-is_told_first
returns-then-not-is_told_first c = (
  λ e. absurd (false≢true e),
  λ tell. absurd (says-no _ c.if-not-is_told_first.true c.is_told_first.ensures
      (told-first c.args.airport.now (state_of c.args.before.now) (delay_in c.args.late.now) c.requires.sound.feasible c.args.entries.now tell)),
)

pub slice_bounds-others-start : goal.slice_bounds-others-start
slice_bounds-others-start c =
    let some = told-some c.args.airport.now (state_of c.args.before.now) (delay_in c.args.late.now) c.requires.sound.feasible c.args.entries.now (says-yes _ c.if-not-is_told_first.false c.is_told_first.ensures) in
    omega (arith, some)

pub returns-then-not-are_in_order : goal.returns-then-not-are_in_order
returns-then-not-are_in_order c = (
  λ e. absurd (false≢true e),
  λ tell. absurd (says-no _ c.if-not-are_in_order.true c.are_in_order.ensures
      (told-order c.args.airport.now (state_of c.args.before.now) (delay_in c.args.late.now) c.requires.sound.feasible c.args.entries.now tell)),
)

pub returns-then-not-are_all_named : goal.returns-then-not-are_all_named
returns-then-not-are_all_named c = (
  λ e. absurd (false≢true e),
  λ tell. absurd (says-no _ c.if-not-are_all_named.true c.are_all_named.ensures
      (told-named c.args.airport.now (state_of c.args.before.now) (delay_in c.args.late.now) c.requires.sound.feasible c.args.entries.now tell)),
)

pub returns : goal.returns
returns c =
    let airport = c.args.airport.now in
    let state = state_of c.args.before.now in
    let delay = delay_in c.args.late.now in
    let entries = c.args.entries.now in (
      λ e. told-from airport state delay c.requires.sound.feasible entries (says-yes _ c.if-not-is_told_first.false c.is_told_first.ensures)
          (says-yes _ c.if-not-are_in_order.false c.are_in_order.ensures) (says-yes _ c.if-not-are_all_named.false c.are_all_named.ensures)
          ((all-due state entries).0 (sym c.drop_as_due.ensures ∙ e)),
      λ tell. c.drop_as_due.ensures ∙ (all-due state entries).1 tell.dropped,
    )
