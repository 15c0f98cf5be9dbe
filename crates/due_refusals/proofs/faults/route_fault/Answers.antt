use Rattle.std.proofs.Common.{◌+◌, ◌∙◌, sym}
use Rattle.taxi_base.proofs.RouteFaults.{fault-start, fault-here, fault-end}
use Rattle.checked_state.specs.Flights.{state_of}
use Rattle.due_refusals.proofs.faults.route_fault.Goals as goal

pub returns-in-Some-clause-fault : goal.returns-in-Some-clause-fault
returns-in-Some-clause-fault c =
    sym (fault-start c.args.airport.now c.args.class (state_of c.args.held.now) c.args.steps.now
    ∙ c.loop-place.invariant.fault
    ∙ fault-here c.args.airport.now c.args.class (state_of c.args.held.now) (c.loop-place.place + 1) c.loop-place.before c.args.steps.now c.loop-place.place _ c.in-Some.cause c.loop-place-test.true
    (sym c.in_ok-cause.ensures.cause ∙ c.in-Some.is))

pub returns-clause-fault : goal.returns-clause-fault
returns-clause-fault c =
    sym (fault-start c.args.airport.now c.args.class (state_of c.args.held.now) c.args.steps.now
    ∙ c.loop-place.invariant.fault
    ∙ fault-end c.args.airport.now c.args.class (state_of c.args.held.now) (c.loop-place.place + 1) c.loop-place.before c.args.steps.now c.loop-place.place c.loop-place-test.false)
