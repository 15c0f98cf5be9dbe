use Rattle.std.proofs.Common.{◌≡◌, ◌∙◌, ◌∷◌, [], List, ℕ, length, sym, ap, subst, arith}
use Rattle.std.specs.Prelude.{Ok, Err, Result}
use Rattle.std.specs.Vec.Iter.{into_iter_items}
use Rattle.std.proofs.lemmas.List.Elements.{All-nil}
use Rattle.std.proofs.lemmas.Result.{err_from_is_err_and}
use Rattle.replies.specs.declared.entries.Entry.{Entry}
use Rattle.replies.specs.Turns.{after_turns}
use Rattle.replies.specs.Passes.{KeepsTurn}
use Rattle.checked_state.specs.Flights.{state_of}
use Rattle.transcripts.specs.declared.refused.CheckRefused.{CheckRefused}
use Rattle.certificate_check.specs.Entries.{AreChecked}
use Rattle.certificate_check.specs.Batch.{CanBeChecked, turns_among, without_all}
use Rattle.certificate_check.proofs.BatchSteps.{first-new}
use Rattle.certificate_check.proofs.BatchRun.{SoFar, nothing-left, stops-checked, stops-same, goes-checked, goes-after, goes-can, goes-others}
use Rattle.certificate_check.proofs.batch.check_entries.Goals as goal

pub check_entry-requires-clause-new : goal.check_entry-requires-clause-new
check_entry-requires-clause-new c =
    let at = c.loop-name in
    let now = state_of at.held in
    let steps : into_iter_items at.name-iterator ≡ (c.in-Some.name, c.in-Some.entry) ∷ into_iter_items c.next.new.self = c.in-Some.ensures.steps.0 in
    first-new c.args.wishes.now now c.in-Some.name c.in-Some.entry (into_iter_items c.next.new.self) (subst (CanBeChecked c.args.wishes.now now) steps at.invariant.rest)

pub loop-name-preserved : goal.loop-name-preserved
loop-name-preserved c =
    let at = c.loop-name in
    let airport = c.args.airport.now in
    let wishes = c.args.wishes.now in
    let start = state_of c.args.held.now in
    let now = state_of at.held in
    let new = state_of c.check_entry.new.held in
    let all = into_iter_items c.into_iter-name-iterator.result in
    let rest = into_iter_items c.next.new.self in
    let name = c.in-Some.name in
    let e = c.in-Some.entry in
    let steps : into_iter_items at.name-iterator ≡ (name, e) ∷ rest = c.in-Some.ensures.steps.0 in
    let can = subst (CanBeChecked wishes now) steps at.invariant.rest in
    let so_far : SoFar airport wishes start now all rest name e can =
    subst (λ (l : List (List ℕ × Entry)). (r : Result Unit CheckRefused) → AreChecked (turns_among airport now wishes l) r → AreChecked (turns_among airport start wishes all) r) steps at.invariant.checked in
    let after = subst (λ (l : List (List ℕ × Entry)). after_turns now (turns_among airport now wishes l) ≡ after_turns start (turns_among airport start wishes all)) steps at.invariant.after in
    let found = c.in_ok-check_entry.ensures.told in
    record {
      ready = c.in_ok-check_entry.ensures.ready;
      rest = goes-can airport wishes start now all rest name e can new found;
      checked = goes-checked airport wishes start now all rest name e can new found so_far;
      after = goes-after airport wishes start now all rest name e can new found after;
      others = goes-others airport wishes start now all rest name e can new found ∙ at.invariant.others;
      many = (let was = at.invariant.many in
          let gone = c.in-Some.ensures.steps.1 in
          let short = ap length steps in
          omega arith);
    }

pub returns-in_err-check_entry-clause-checked : goal.returns-in_err-check_entry-clause-checked
returns-in_err-check_entry-clause-checked c =
    let at = c.loop-name in
    let airport = c.args.airport.now in
    let wishes = c.args.wishes.now in
    let start = state_of c.args.held.now in
    let now = state_of at.held in
    let new = state_of c.check_entry.new.held in
    let all = into_iter_items c.into_iter-name-iterator.result in
    let rest = into_iter_items c.next.new.self in
    let name = c.in-Some.name in
    let e = c.in-Some.entry in
    let steps : into_iter_items at.name-iterator ≡ (name, e) ∷ rest = c.in-Some.ensures.steps.0 in
    let can = subst (CanBeChecked wishes now) steps at.invariant.rest in
    let so_far : SoFar airport wishes start now all rest name e can =
    subst (λ (l : List (List ℕ × Entry)). (r : Result Unit CheckRefused) → AreChecked (turns_among airport now wishes l) r → AreChecked (turns_among airport start wishes all) r) steps at.invariant.checked in
    let why = c.in_err-check_entry.field-0.0 in
    let here = stops-checked airport wishes start now all rest name e can new why so_far c.in_err-check_entry.ensures.told in
    let err = err_from_is_err_and c.from_residual.result c.from_residual.ensures.1 in
    rw err.1
    (subst (λ (w : CheckRefused). AreChecked (turns_among airport start wishes c.args.entries.items) (Err w)) (sym err.2)
    (subst (λ (l : List (List ℕ × Entry)). AreChecked (turns_among airport start wishes l) (Err why)) c.into_iter-name-iterator.ensures.into_iter_gives.0 here))

pub returns-in_err-check_entry-clause-others : goal.returns-in_err-check_entry-clause-others
returns-in_err-check_entry-clause-others c =
    let at = c.loop-name in
    let airport = c.args.airport.now in
    let wishes = c.args.wishes.now in
    let now = state_of at.held in
    let new = state_of c.check_entry.new.held in
    let rest = into_iter_items c.next.new.self in
    let name = c.in-Some.name in
    let e = c.in-Some.entry in
    let steps : into_iter_items at.name-iterator ≡ (name, e) ∷ rest = c.in-Some.ensures.steps.0 in
    let can = subst (CanBeChecked wishes now) steps at.invariant.rest in
    ap (without_all wishes) (stops-same airport wishes now now rest rest name e can new c.in_err-check_entry.field-0.0 c.in_err-check_entry.ensures.told) ∙ at.invariant.others

pub returns-clause-checked : goal.returns-clause-checked
returns-clause-checked c =
    let at = c.loop-name in
    let airport = c.args.airport.now in
    let wishes = c.args.wishes.now in
    let start = state_of c.args.held.now in
    let none = c.in-None.ensures.steps in
    let empty : into_iter_items at.name-iterator ≡ [] = nothing-left _ (sym at.invariant.many ∙ none.0) in
    let checked =
    subst (λ (l : List (List ℕ × Entry)). (r : Result Unit CheckRefused) → AreChecked (turns_among airport (state_of at.held) wishes l) r
    → AreChecked (turns_among airport start wishes (into_iter_items c.into_iter-name-iterator.result)) r) empty at.invariant.checked in
    subst (λ (l : List (List ℕ × Entry)). AreChecked (turns_among airport start wishes l) (Ok tt)) c.into_iter-name-iterator.ensures.into_iter_gives.0
    (checked (Ok tt) (λ rule. All-nil (λ turn. KeepsTurn turn rule)))
