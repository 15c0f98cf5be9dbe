use Rattle.std.proofs.Common.{◌∙◌, ◌+◌, Some, sym, ap, subst, inr}
use Rattle.std.proofs.lemmas.Result.{err_from_is_err_and}
use Rattle.replies.proofs.RequestTests.{AreTried, one-tried, one-refused}
use Rattle.command_refusals.proofs.batch.asked_batch.Goals as goal

pub returns-in_err-wish-clause-err : goal.returns-in_err-wish-clause-err
returns-in_err-wish-clause-err c =
    let err = err_from_is_err_and c.from_residual.result c.from_residual.ensures.1 in
    rw err.1
    (inr (one-refused c.args.airport.now c.args.ledger.now.state c.args.requests.now c.loop-place.place c.index-requests-place.result c.loop-place-test.true c.index-requests-place.is
    c.loop-place.wishes c.in_err-wish.field-0.0 c.loop-place.invariant c.in_err-wish.ensures.err
    ∙ ap (λ why. Some why) (sym err.2)))

pub loop-place-preserved : goal.loop-place-preserved
loop-place-preserved c =
    subst (AreTried c.args.airport.now c.args.ledger.now.state c.args.requests.now (c.loop-place.place + 1)) (sym c.in_ok-push.ensures.ok)
    (one-tried c.args.airport.now c.args.ledger.now.state c.args.requests.now c.loop-place.place c.index-requests-place.result c.loop-place-test.true c.index-requests-place.is
    c.loop-place.wishes c.in_ok-wish.wish c.loop-place.invariant c.in_ok-wish.ensures.named c.in_ok-wish.ensures.ok)
