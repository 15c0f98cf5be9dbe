use Rattle.std.proofs.Common.{arith, ap, ◌∙◌}
use Rattle.plan_table.specs.declared.row.PlanRow.{PlanRow}
use Rattle.plan_table.proofs.RowLaws.{step-times}
use Rattle.plan_table.proofs.TableLaws.{flight-arcs, step-ordered}
use Rattle.plan_table.proofs.table.Plan.write_step.Goals as goal

pub step_row-row-requires-clause-arcs : goal.step_row-row-requires-clause-arcs
step_row-row-requires-clause-arcs c = flight-arcs c.args.self.now.airport.now c.horizon-horizon.ensures.rules c.args.self.now.ledger.now.state c.requires.fits.feasible c.args.flight.now c.requires.in_force

pub write_row-requires-clause-enter : goal.write_row-requires-clause-enter
write_row-requires-clause-enter c =
    let times = step-times c.args.self.now.airport.now c.args.flight.now c.args.number c.args.step.now c.step_slack-slack.result in
    let same = ap (λ (r : PlanRow). r.enter) c.step_row-row.ensures ∙ times.0 in
    rw same (step-ordered c.args.self.now.airport.now c.horizon-horizon.ensures.rules c.args.self.now.ledger.now.state c.requires.fits.feasible c.args.flight.now c.args.step.now c.requires.feasible).0

pub write_row-requires-clause-leave : goal.write_row-requires-clause-leave
write_row-requires-clause-leave c =
    let times = step-times c.args.self.now.airport.now c.args.flight.now c.args.number c.args.step.now c.step_slack-slack.result in
    let same = ap (λ (r : PlanRow). r.leave) c.step_row-row.ensures ∙ times.1 in
    rw same (step-ordered c.args.self.now.airport.now c.horizon-horizon.ensures.rules c.args.self.now.ledger.now.state c.requires.fits.feasible c.args.flight.now c.args.step.now c.requires.feasible).1

pub write_row-requires-clause-until : goal.write_row-requires-clause-until
write_row-requires-clause-until c =
    let times = step-times c.args.self.now.airport.now c.args.flight.now c.args.number c.args.step.now c.step_slack-slack.result in
    let same = ap (λ (r : PlanRow). r.until) c.step_row-row.ensures ∙ times.2 in
    let near = c.horizon-horizon.ensures.rules.horizon in
    rw same (omega (arith, near))
