use Rattle.std.proofs.Common.{ap, ◌∙◌}
use Rattle.plan_table.specs.declared.row.PlanRow.{PlanRow}
use Rattle.plan_table.proofs.RowLaws.{party-times}
use Rattle.plan_table.proofs.TableLaws.{party-ordered}
use Rattle.plan_table.proofs.table.Plan.write_party.Goals as goal

pub write_row-requires-clause-enter : goal.write_row-requires-clause-enter
write_row-requires-clause-enter c =
    let same = ap (λ (r : PlanRow). r.enter) c.party_row-row.ensures ∙ (party-times c.args.self.now.airport.now c.args.party.now c.party_slack-slack.result).0 in
    rw same (party-ordered c.args.self.now.airport.now c.horizon-horizon.ensures.rules c.args.self.now.ledger.now.state c.requires.fits.feasible c.args.party.now c.requires.in_force).0

pub write_row-requires-clause-leave : goal.write_row-requires-clause-leave
write_row-requires-clause-leave c =
    let same = ap (λ (r : PlanRow). r.leave) c.party_row-row.ensures ∙ (party-times c.args.self.now.airport.now c.args.party.now c.party_slack-slack.result).1 in
    rw same (party-ordered c.args.self.now.airport.now c.horizon-horizon.ensures.rules c.args.self.now.ledger.now.state c.requires.fits.feasible c.args.party.now c.requires.in_force).1

pub write_row-requires-clause-until : goal.write_row-requires-clause-until
write_row-requires-clause-until c =
    let same = ap (λ (r : PlanRow). r.until) c.party_row-row.ensures ∙ (party-times c.args.self.now.airport.now c.args.party.now c.party_slack-slack.result).2 in
    rw same (party-ordered c.args.self.now.airport.now c.horizon-horizon.ensures.rules c.args.self.now.ledger.now.state c.requires.fits.feasible c.args.party.now c.requires.in_force).1
