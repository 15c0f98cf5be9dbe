use Rattle.std.proofs.Common.{◌+◌, sym, subst}
use Rattle.replies.proofs.RequestTests.{AreTried, one-tried, one-refused}
use Rattle.checked_state.specs.Flights.{state_of}
use Rattle.due_refusals.proofs.batch.named_batch.Goals as goal

pub returns-in-Err : goal.returns-in-Err
returns-in-Err c =
    one-refused c.args.airport.now (state_of c.args.held.now) c.args.requests.now c.loop-place.place c.index-requests-place.result c.loop-place-test.true c.index-requests-place.is
    c.loop-place.wishes c.in-Err.why c.loop-place.invariant c.in-Err.ensures.err

pub loop-place-preserved : goal.loop-place-preserved
loop-place-preserved c =
    let state = state_of c.args.held.now in
    subst (AreTried c.args.airport.now state c.args.requests.now (c.loop-place.place + 1)) (sym c.in_ok-push-in-Ok.ensures.ok)
    (one-tried c.args.airport.now state c.args.requests.now c.loop-place.place c.index-requests-place.result c.loop-place-test.true c.index-requests-place.is
    c.loop-place.wishes c.in-Ok.wish c.loop-place.invariant c.in-Ok.ensures.named c.in-Ok.ensures.ok)
