use Rattle.std.proofs.Common.{◌∙◌, ◌∷◌, [], Some, sym, ap}
use Rattle.std.proofs.lemmas.Result.{err_from_is_err_and}
use Rattle.taxi_text.specs.declared.command.BatchRequest.TheVariants as requested
use Rattle.replies.specs.Refusals.{in_force, tests_of_words, full}
use Rattle.replies.proofs.RequestTests.{stopped}
use Rattle.command_refusals.proofs.asking.asked_arrival.Goals as goal

pub returns-in_err-trip-clause-err : goal.returns-in_err-trip-clause-err
returns-in_err-trip-clause-err c =
    let state = c.args.ledger.now.state in
    let asked = c.args.asked.now in
    let err = err_from_is_err_and c.from_residual.result c.from_residual.ensures.1 in
    rw err.1
    (stopped (in_force state asked.flight ∷ tests_of_words c.args.airport.now (requested.Arrival asked)) (full state ∷ []) c.in_err-trip.field-0.0 c.in_err-trip.ensures.err
    ∙ ap (λ why. Some why) (sym err.2))
