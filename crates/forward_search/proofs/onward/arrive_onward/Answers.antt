use Rattle.std.proofs.Common.{Ok, arith}
use Rattle.taxi_base.specs.Walks.{Conditions, conditions_of_class}
use Rattle.place_cells.specs.Laid.{windows_of}
use Rattle.forward_search.proofs.OnwardAnswers.{begins-onward, goes-onward, best-onward}
use Rattle.forward_search.proofs.onward.arrive_onward.Goals as goal

pub returns-in-None-clause-answers : goal.returns-in-None-clause-answers
returns-in-None-clause-answers c =
    let on = c.args.onward in
    let in_windows : Conditions = conditions_of_class c.args.airport.now c.args.class (windows_of c.args.store.now) in
    begins-onward in_windows on.steps.now on.time on.from c.args.to on.asked on.hold 4294967295 (omega (arith, c.horizon-horizon.ensures.rules.horizon.1)) c.in-None.ensures c.in_ok-rest.rest
    (rw (c.start_onward-start.ensures.node c.in-None.is) at (c.in_ok-rest.ensures 0))

pub returns-in-Some-clause-answers : goal.returns-in-Some-clause-answers
returns-in-Some-clause-answers c =
    let on = c.args.onward in
    let in_windows : Conditions = conditions_of_class c.args.airport.now c.args.class (windows_of c.args.store.now) in
    let start = rw c.in-Some.is at c.start_onward-start.ensures.step in
    goes-onward in_windows on.steps.now on.time on.from c.args.to on.asked on.hold c.in-Some.field-0-0.now c.in-Some.done.now c.in-Some.ensures.0 c.in-Some.ensures.1 c.in_ok-rest.rest
    (rw start at (c.in_ok-rest.ensures c.in-Some.field-0-0.now.leave)) c.after_steps.result c.after_steps.ensures

pub returns-in-None-clause-best : goal.returns-in-None-clause-best
returns-in-None-clause-best c walk =
    let on = c.args.onward in
    let in_windows : Conditions = conditions_of_class c.args.airport.now c.args.class (windows_of c.args.store.now) in
    best-onward in_windows on.steps.now on.time on.from c.args.to on.asked on.hold (Ok c.in_ok-rest.rest)
    (begins-onward in_windows on.steps.now on.time on.from c.args.to on.asked on.hold 4294967295 (omega (arith, c.horizon-horizon.ensures.rules.horizon.1)) c.in-None.ensures c.in_ok-rest.rest
    (rw (c.start_onward-start.ensures.node c.in-None.is) at (c.in_ok-rest.ensures 0))) walk

pub returns-in-Some-clause-best : goal.returns-in-Some-clause-best
returns-in-Some-clause-best c walk =
    let on = c.args.onward in
    let in_windows : Conditions = conditions_of_class c.args.airport.now c.args.class (windows_of c.args.store.now) in
    let start = rw c.in-Some.is at c.start_onward-start.ensures.step in
    best-onward in_windows on.steps.now on.time on.from c.args.to on.asked on.hold c.after_steps.result
    (goes-onward in_windows on.steps.now on.time on.from c.args.to on.asked on.hold c.in-Some.field-0-0.now c.in-Some.done.now c.in-Some.ensures.0 c.in-Some.ensures.1 c.in_ok-rest.rest
    (rw start at (c.in_ok-rest.ensures c.in-Some.field-0-0.now.leave)) c.after_steps.result c.after_steps.ensures) walk
