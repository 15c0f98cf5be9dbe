use Rattle.std.proofs.Common.{◌≤◌, ◌∙◌, sym, arith}
use Rattle.taxi_base.proofs.RouteFaults.{cause-taken}
use Rattle.commitments.proofs.ledger.Ledger.cause_of.Goals as goal

pub returns-else-horizon-step : goal.returns-else-horizon-step
returns-else-horizon-step c =
    let least = rw (c.classes.ensures, c.segment.ensures) at c.seconds.ensures.set in
    let in_time : c.args.step.now.leave ≤ c.args.airport.now.horizon = omega (arith, c.horizon.ensures.horizon) in
    c.taken_cause.ensures
    ∙ sym (cause-taken c.args.airport.now c.args.class c.args.self.now.state c.args.before c.args.step.now c.in-Some.seconds (sym least ∙ c.in-Some.is) (sym c.if-not-may_follow.ensures)
    (sym c.if-is_too_fast.ensures) in_time)
