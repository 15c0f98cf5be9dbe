use Rattle.std.proofs.Common.{◌≡◌, ◌∙◌, ◌∷◌, [], All, List, ℕ, length, sym, ap, subst, arith}
use Rattle.std.specs.Prelude.{Ok, Err, Result}
use Rattle.std.specs.Vec.Iter.{into_iter_items}
use Rattle.std.proofs.lemmas.List.Elements.{All-nil, All-head, All-tail}
use Rattle.std.proofs.lemmas.Result.{err_from_is_err_and}
use Rattle.taxi_base.specs.declared.answers.Party.{Party}
use Rattle.replies.specs.declared.entries.Entry.{Entry}
use Rattle.replies.specs.Repairs.{IsDroppedAsDue}
use Rattle.replies.specs.Turns.{after_turns}
use Rattle.replies.specs.Passes.{KeepsTurn}
use Rattle.checked_state.specs.Flights.{state_of}
use Rattle.transcripts.specs.declared.refused.CheckRefused.{CheckRefused}
use Rattle.certificate_check.specs.Entries.{AreChecked}
use Rattle.certificate_check.specs.Late.{delay_in, AreAlone, turns_late}
use Rattle.certificate_check.proofs.BatchRun.{nothing-left}
use Rattle.certificate_check.proofs.LateTurns.{SoFar, goes-checked, goes-after, stops-checked}
use Rattle.certificate_check.proofs.late_turns.check_turns.Goals as goal

pub check_entry-requires-clause-due : goal.check_entry-requires-clause-due
check_entry-requires-clause-due c =
    let at = c.loop-name in
    let before = state_of c.args.before.now in
    let steps : into_iter_items at.name-iterator ≡ (c.in-Some.name, c.in-Some.entry) ∷ into_iter_items c.next.new.self = c.in-Some.ensures.steps.0 in
    All-head (IsDroppedAsDue before) (c.in-Some.name, c.in-Some.entry) (into_iter_items c.next.new.self) (subst (All (IsDroppedAsDue before)) steps at.invariant.due)

pub check_entry-requires-clause-alone : goal.check_entry-requires-clause-alone
check_entry-requires-clause-alone c = subst (λ (parties : List Party). AreAlone (state_of c.args.before.now) parties) (sym c.loop-name.invariant.parties) c.requires.alone

pub loop-name-preserved : goal.loop-name-preserved
loop-name-preserved c =
    let at = c.loop-name in
    let airport = c.args.airport.now in
    let before = state_of c.args.before.now in
    let delay = delay_in c.args.late.now in
    let start = state_of c.args.held.now in
    let now = state_of at.held in
    let new = state_of c.check_entry.new.held in
    let all = into_iter_items c.into_iter-name-iterator.result in
    let rest = into_iter_items c.next.new.self in
    let name = c.in-Some.name in
    let e = c.in-Some.entry in
    let steps : into_iter_items at.name-iterator ≡ (name, e) ∷ rest = c.in-Some.ensures.steps.0 in
    let so_far : SoFar airport before delay start now all rest name e =
    subst (λ (l : List (List ℕ × Entry)). (r : Result Unit CheckRefused) → AreChecked (turns_late airport before delay now l) r → AreChecked (turns_late airport before delay start all) r) steps at.invariant.checked in
    let after = subst (λ (l : List (List ℕ × Entry)). after_turns now (turns_late airport before delay now l) ≡ after_turns start (turns_late airport before delay start all)) steps at.invariant.after in
    let found = c.in_ok-check_entry.ensures.checked in
    record {
      tidy = c.in_ok-check_entry.ensures.tidy;
      due = All-tail (IsDroppedAsDue before) (name, e) rest (subst (All (IsDroppedAsDue before)) steps at.invariant.due);
      parties = c.in_ok-check_entry.ensures.parties ∙ at.invariant.parties;
      checked = goes-checked airport before delay start now all rest name e new found so_far;
      after = goes-after airport before delay start now all rest name e new found after;
      many = (let was = at.invariant.many in
          let gone = c.in-Some.ensures.steps.1 in
          let short = ap length steps in
          omega arith);
    }

pub returns-in_err-check_entry-clause-checked : goal.returns-in_err-check_entry-clause-checked
returns-in_err-check_entry-clause-checked c =
    let at = c.loop-name in
    let airport = c.args.airport.now in
    let before = state_of c.args.before.now in
    let delay = delay_in c.args.late.now in
    let start = state_of c.args.held.now in
    let now = state_of at.held in
    let new = state_of c.check_entry.new.held in
    let all = into_iter_items c.into_iter-name-iterator.result in
    let rest = into_iter_items c.next.new.self in
    let name = c.in-Some.name in
    let e = c.in-Some.entry in
    let steps : into_iter_items at.name-iterator ≡ (name, e) ∷ rest = c.in-Some.ensures.steps.0 in
    let so_far : SoFar airport before delay start now all rest name e =
    subst (λ (l : List (List ℕ × Entry)). (r : Result Unit CheckRefused) → AreChecked (turns_late airport before delay now l) r → AreChecked (turns_late airport before delay start all) r) steps at.invariant.checked in
    let why = c.in_err-check_entry.field-0.0 in
    let here = stops-checked airport before delay start now all rest name e new why c.in_err-check_entry.ensures.checked so_far in
    let err = err_from_is_err_and c.from_residual.result c.from_residual.ensures.1 in
    rw err.1
    (subst (λ (w : CheckRefused). AreChecked (turns_late airport before delay start c.args.entries.items) (Err w)) (sym err.2)
    (subst (λ (l : List (List ℕ × Entry)). AreChecked (turns_late airport before delay start l) (Err why)) c.into_iter-name-iterator.ensures.into_iter_gives.0 here))

pub returns-clause-checked : goal.returns-clause-checked
returns-clause-checked c =
    let at = c.loop-name in
    let airport = c.args.airport.now in
    let before = state_of c.args.before.now in
    let delay = delay_in c.args.late.now in
    let start = state_of c.args.held.now in
    let none = c.in-None.ensures.steps in
    let empty : into_iter_items at.name-iterator ≡ [] = nothing-left _ (sym at.invariant.many ∙ none.0) in
    let checked =
    subst (λ (l : List (List ℕ × Entry)). (r : Result Unit CheckRefused) → AreChecked (turns_late airport before delay (state_of at.held) l) r
    → AreChecked (turns_late airport before delay start (into_iter_items c.into_iter-name-iterator.result)) r) empty at.invariant.checked in
    subst (λ (l : List (List ℕ × Entry)). AreChecked (turns_late airport before delay start l) (Ok tt)) c.into_iter-name-iterator.ensures.into_iter_gives.0
    (checked (Ok tt) (λ rule. All-nil (λ turn. KeepsTurn turn rule)))
