use Rattle.std.proofs.Common.{sym, subst}
use Rattle.std.proofs.lemmas.Bool.{both_ways}
use Rattle.held_spans.specs.Spans.{AreHeldBy}
use Rattle.checked_state.specs.Flights.{state_of, named_in}
use Rattle.check_rows.proofs.LoopLaws.{says-no, says-yes}
use Rattle.check_reports.proofs.OccupiedLaws.{all-held, held-due}
use Rattle.check_reports.proofs.occupied.are_held_rows.Goals as goal

pub returns-then-are_due : goal.returns-then-are_due
returns-then-are_due c =
    let airport = c.args.airport.now in
    let state = state_of c.args.held.now in
    let spans = c.spans-spans.result.now in
    let are = subst (AreHeldBy (named_in airport state)) (sym c.spans-spans.ensures) c.requires.spans.holders in
    all-held airport state spans are c.args.segment c.of-conflicting.result.now (rw c.conflicts.ensures at c.of-conflicting.ensures.all) c.args.rows.now
    (says-yes _ c.if-not-are_in_order.false c.are_in_order.ensures) (says-yes _ c.if-are_due.true c.are_due.ensures) c.are_all_told.result c.are_all_told.ensures

pub returns-else-are_due : goal.returns-else-are_due
returns-else-are_due c =
    let airport = c.args.airport.now in
    let state = state_of c.args.held.now in
    let spans = c.spans-spans.result.now in
    let are = subst (AreHeldBy (named_in airport state)) (sym c.spans-spans.ensures) c.requires.spans.holders in (
      λ e. absurd (both_ways _ c.if-are_due.false e),
      λ told. absurd (says-no _ c.if-are_due.false c.are_due.ensures (held-due airport state spans are c.args.segment c.args.rows.now told)),
    )
