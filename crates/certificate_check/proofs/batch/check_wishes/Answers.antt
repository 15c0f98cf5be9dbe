use Rattle.std.proofs.Common.{◌≡◌, ◌∙◌, ℕ, List, sym, subst, arith}
use Rattle.std.specs.Prelude.{OnOk}
use Rattle.taxi_text.specs.declared.command.Command.TheVariants as command
use Rattle.replies.specs.declared.block.Block.{Block}
use Rattle.replies.specs.declared.entries.Entry.{Entry}
use Rattle.replies.specs.Turns.{after_turns}
use Rattle.checked_state.specs.Flights.{state_of}
use Rattle.certificate_check.specs.Judged.{IsJudged}
use Rattle.certificate_check.specs.Entries.{AreChecked}
use Rattle.certificate_check.specs.Batch.{CanBeChecked, turns_among}
use Rattle.certificate_check.proofs.JudgedLaws.{form-ok}
use Rattle.certificate_check.proofs.AgainLaws.{ok-there}
use Rattle.certificate_check.proofs.BatchState.{without-new}
use Rattle.certificate_check.proofs.BatchEntries.{entries-named, entries-new, entries-differ, entries-many}
use Rattle.certificate_check.proofs.BatchJudged.{entries-judged, none-done}
use Rattle.certificate_check.proofs.batch.check_wishes.Goals as goal

pub check_entries-checked-requires-clause-can : goal.check_entries-checked-requires-clause-can
check_entries-checked-requires-clause-can c =
    let wishes = c.args.wishes.now in
    let state = state_of c.args.held.now in
    let entries = c.in-Batch.entries in
    let form = form-ok c.tells_each.result c.in_ok-pass_if-in-Batch.field-0 (sym c.pass_if.ensures ∙ c.in_ok-pass_if-in-Batch.was) in
    let tells = rw c.as_slice.ensures at (c.tells_each.ensures.0 form) in
    subst (CanBeChecked wishes state) (sym c.into_vec.ensures) (record {
      told = tells.1;
      named = entries-named wishes entries tells.0;
      new = entries-new wishes entries tells.0 state c.requires.new;
      differ = entries-differ wishes entries tells.0 c.requires.differ;
      fit = omega (arith, entries-many wishes entries tells.0, c.requires.fit);
    })

pub returns-then-is_err-clause-judged : goal.returns-then-is_err-clause-judged
returns-then-is_err-clause-judged c requests none known =
    let airport = c.args.airport.now in
    let wishes = c.args.wishes.now in
    let state = state_of c.args.held.now in
    let total = c.in-Batch.total in
    let entries = c.in-Batch.entries in
    let form = form-ok c.tells_each.result c.in_ok-pass_if-in-Batch.field-0 (sym c.pass_if.ensures ∙ c.in_ok-pass_if-in-Batch.was) in
    let tells = rw c.as_slice.ensures at (c.tells_each.ensures.0 form) in
    let result = c.check_entries-checked.result in
    let after = state_of c.take_all_out.new.held in
    let checked = subst (λ (l : List (List ℕ × Entry)). AreChecked (turns_among airport state wishes l) result) c.into_vec.ensures c.check_entries-checked.ensures.checked in
    subst (λ (b : Block). IsJudged airport (command.Batch requests) b state result after) (sym c.in-Batch.is)
    (entries-judged airport state requests wishes none known total entries tells result after checked
    (none-done result (after ≡ after_turns state (turns_among airport state wishes entries)) (sym c.is_err.ensures.value ∙ c.if-is_err.true))
    (λ why is. c.take_all_out.ensures.state ∙ c.check_entries-checked.ensures.others ∙ without-new wishes state c.requires.new))

pub returns-else-is_err-clause-judged : goal.returns-else-is_err-clause-judged
returns-else-is_err-clause-judged c requests none known =
    let airport = c.args.airport.now in
    let wishes = c.args.wishes.now in
    let state = state_of c.args.held.now in
    let total = c.in-Batch.total in
    let entries = c.in-Batch.entries in
    let form = form-ok c.tells_each.result c.in_ok-pass_if-in-Batch.field-0 (sym c.pass_if.ensures ∙ c.in_ok-pass_if-in-Batch.was) in
    let tells = rw c.as_slice.ensures at (c.tells_each.ensures.0 form) in
    let result = c.check_entries-checked.result in
    let after = state_of c.check_entries-checked.new.held in
    let checked = subst (λ (l : List (List ℕ × Entry)). AreChecked (turns_among airport state wishes l) result) c.into_vec.ensures c.check_entries-checked.ensures.checked in
    let left = subst (λ (l : List (List ℕ × Entry)). OnOk result (after ≡ after_turns state (turns_among airport state wishes l))) c.into_vec.ensures c.check_entries-checked.ensures.state in
    let passed = ok-there result (sym c.is_err.ensures.value ∙ c.if-is_err.false) in
    subst (λ (b : Block). IsJudged airport (command.Batch requests) b state result after) (sym c.in-Batch.is)
    (entries-judged airport state requests wishes none known total entries tells result after checked left (λ why is. absurd (cc (sym passed ∙ is))))
