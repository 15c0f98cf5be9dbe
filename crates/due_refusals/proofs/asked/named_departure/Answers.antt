use Rattle.std.proofs.Common.{◌∙◌, ◌∷◌, [], Some, sym, ap}
use Rattle.std.proofs.lemmas.Result.{err_from_is_err_and}
use Rattle.taxi_text.specs.declared.command.BatchRequest.TheVariants as requested
use Rattle.replies.specs.Refusals.{in_force, tests_of_words, full}
use Rattle.replies.proofs.RequestTests.{stopped}
use Rattle.checked_state.specs.Flights.{state_of}
use Rattle.due_refusals.proofs.asked.named_departure.Goals as goal

pub returns-in_err-named-clause-err : goal.returns-in_err-named-clause-err
returns-in_err-named-clause-err c =
    let state = state_of c.args.held.now in
    let asked = c.args.asked.now in
    let err = err_from_is_err_and c.from_residual.result c.from_residual.ensures.1 in
    rw err.1
    (stopped (in_force state asked.flight ∷ tests_of_words c.args.airport.now (requested.Departure asked)) (full state ∷ []) c.in_err-named.field-0.0 c.in_err-named.ensures.err
    ∙ ap (λ why. Some why) (sym err.2))
