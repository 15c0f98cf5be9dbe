use Rattle.std.proofs.Common.{arith}
use Rattle.checked_state.specs.Flights.{state_of}
use Rattle.replies.proofs.BatchNames.{batch-free, wishes-many}
use Rattle.certificate_check.proofs.BatchEntries.{wishes-sought, wishes-room}
use Rattle.certificate_check.proofs.batch.check_batch.Goals as goal

pub check_wishes-requires-clause-sought : goal.check_wishes-requires-clause-sought
check_wishes-requires-clause-sought c =
    let known = rw c.in-Named.is at c.in_ok-named.ensures in
    rw c.as_slice.ensures (wishes-sought c.args.airport.now c.args.requests.now c.in-Named.wishes known.0 c.requires.grammar)

pub check_wishes-requires-clause-new : goal.check_wishes-requires-clause-new
check_wishes-requires-clause-new c =
    let known = rw c.in-Named.is at c.in_ok-named.ensures in
    rw c.as_slice.ensures (batch-free c.args.airport.now (state_of c.args.held.now) c.args.requests.now c.in-Named.wishes known.0 known.1).0

pub check_wishes-requires-clause-differ : goal.check_wishes-requires-clause-differ
check_wishes-requires-clause-differ c =
    let known = rw c.in-Named.is at c.in_ok-named.ensures in
    rw c.as_slice.ensures (batch-free c.args.airport.now (state_of c.args.held.now) c.args.requests.now c.in-Named.wishes known.0 known.1).1

pub check_wishes-requires-clause-fit : goal.check_wishes-requires-clause-fit
check_wishes-requires-clause-fit c =
    let known = rw c.in-Named.is at c.in_ok-named.ensures in
    rw c.as_slice.ensures (wishes-room c.args.airport.now (state_of c.args.held.now) c.args.requests.now c.in-Named.wishes known.0 known.1)

pub check_wishes-requires-clause-few : goal.check_wishes-requires-clause-few
check_wishes-requires-clause-few c =
    let known = rw c.in-Named.is at c.in_ok-named.ensures in
    let many = wishes-many c.args.airport.now c.args.requests.now c.in-Named.wishes known.0 in
    rw c.as_slice.ensures (omega (arith, c.requires.few))
