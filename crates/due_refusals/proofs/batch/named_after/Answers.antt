use Rattle.std.proofs.Common.{◌≡◌, ◌∙◌, ◌∷◌, false, List, Some, sym, ap, subst}
use Rattle.std.specs.List.{list_any}
use Rattle.std.proofs.lemmas.Result.{err_from_is_err_and}
use Rattle.taxi_base.specs.declared.answers.Refusal.{Refusal}
use Rattle.taxi_base.specs.Airport.{Airport}
use Rattle.taxi_base.specs.State.{State}
use Rattle.taxi_text.specs.declared.command.Asked.{Asked}
use Rattle.taxi_text.specs.declared.command.BatchRequest.{BatchRequest}
use Rattle.taxi_text.specs.declared.command.BatchRequest.TheVariants as requested
use Rattle.replies.specs.Asked.{asked_in}
use Rattle.replies.specs.Refusals.{first_of, is_name_of, in_force, tests_of_words, tests_of_request}
use Rattle.replies.proofs.RequestTests.{new-before}
use Rattle.checked_state.specs.Flights.{state_of}
use Rattle.due_refusals.proofs.batch.named_after.Goals as goal

-- a request whose name is new is refused as it would be alone
refused : (airport : Airport) (state : State) (before : List BatchRequest) (given own : BatchRequest) → given ≡ own → list_any (is_name_of (asked_in given).flight) before ≡ false
    → (why : Refusal) → first_of (in_force state (asked_in own).flight ∷ tests_of_words airport own) ≡ Some why → first_of (tests_of_request airport state before given) ≡ Some why
refused airport state before given own same new why alone =
    ap (λ test. first_of (test ∷ tests_of_words airport given)) (new-before state before (asked_in given).flight new)
    ∙ subst (λ (r : BatchRequest). first_of (in_force state (asked_in r).flight ∷ tests_of_words airport r) ≡ Some why) (sym same) alone

pub returns-in_err-named-in-Arrival-clause-err : goal.returns-in_err-named-in-Arrival-clause-err
returns-in_err-named-in-Arrival-clause-err c =
    let before = c.args.before.now in
    let new = ap (λ (asked : Asked). list_any (is_name_of asked.flight) before) (sym c.asked_in.ensures) ∙ sym c.is_asked_for.ensures ∙ c.if-is_asked_for.false in
    let err = err_from_is_err_and c.from_residual.result c.from_residual.ensures.1 in
    rw err.1
    (refused c.args.airport.now (state_of c.args.held.now) before c.args.request.now (requested.Arrival c.in-Arrival.asked) c.in-Arrival.is new
    c.in_err-named-in-Arrival.field-0.0 c.in_err-named-in-Arrival.ensures.err ∙ ap (λ why. Some why) (sym err.2))

pub returns-in_err-named-in-Departure-clause-err : goal.returns-in_err-named-in-Departure-clause-err
returns-in_err-named-in-Departure-clause-err c =
    let before = c.args.before.now in
    let new = ap (λ (asked : Asked). list_any (is_name_of asked.flight) before) (sym c.asked_in.ensures) ∙ sym c.is_asked_for.ensures ∙ c.if-is_asked_for.false in
    let err = err_from_is_err_and c.from_residual-in_err-named-in-Departure.result c.from_residual-in_err-named-in-Departure.ensures.1 in
    rw err.1
    (refused c.args.airport.now (state_of c.args.held.now) before c.args.request.now (requested.Departure c.in-Departure.asked) c.in-Departure.is new
    c.in_err-named-in-Departure.field-0.0 c.in_err-named-in-Departure.ensures.err ∙ ap (λ why. Some why) (sym err.2))
