use Rattle.std.proofs.Common.{arith}
use Rattle.plan_table.proofs.SlackLaws.{on, leaves-by, step-slack}
use Rattle.plan_table.proofs.slack.step_slack.Goals as goal

pub free_until-end-requires-clause-segment : goal.free_until-end-requires-clause-segment
free_until-end-requires-clause-segment c =
    rw c.segment.ensures (on c.args.airport.now c.horizon-horizon.ensures.rules c.args.ledger.now.state c.args.flight.now c.args.step.now c.requires.feasible)

pub free_until-end-requires-clause-in_time : goal.free_until-end-requires-clause-in_time
free_until-end-requires-clause-in_time c = rw (c.held-held.ensures, c.horizon-horizon.ensures.horizon) (omega arith)

pub overflow_sub-result : goal.overflow_sub-result
overflow_sub-result c =
    let until = rw (c.segment.ensures, c.held-held.ensures, c.horizon-horizon.ensures.horizon, c.clearance-clearance.ensures.clearance) at c.free_until-end.ensures in
    rw (c.latest_leave.ensures, c.horizon-horizon.ensures.horizon, c.clearance-clearance.ensures.clearance)
    (leaves-by c.args.airport.now c.horizon-horizon.ensures.rules c.args.ledger.now.state c.args.flight.now c.args.step.now c.requires.feasible c.free_until-end.result until)

pub returns : goal.returns
returns c =
    let until = rw (c.segment.ensures, c.held-held.ensures, c.horizon-horizon.ensures.horizon, c.clearance-clearance.ensures.clearance) at c.free_until-end.ensures in
    rw (c.latest_leave.ensures, c.horizon-horizon.ensures.horizon, c.clearance-clearance.ensures.clearance)
    (step-slack c.args.airport.now c.horizon-horizon.ensures.rules c.args.ledger.now.state c.args.flight.now c.args.step.now c.requires.feasible c.free_until-end.result until)
