use Rattle.plan_table.proofs.SlackLaws.{own, party-slack}
use Rattle.plan_table.proofs.slack.party_slack.Goals as goal

pub free_until-requires-clause-segment : goal.free_until-requires-clause-segment
free_until-requires-clause-segment c = (own c.args.airport.now c.args.ledger.now.state c.requires.fits.feasible c.args.party.now c.requires.in_force).on_segment

pub free_until-requires-clause-in_time : goal.free_until-requires-clause-in_time
free_until-requires-clause-in_time c = (own c.args.airport.now c.args.ledger.now.state c.requires.fits.feasible c.args.party.now c.requires.in_force).in_time

pub returns : goal.returns
returns c = party-slack c.args.airport.now c.args.ledger.now.state c.requires.fits.feasible c.args.party.now c.requires.in_force c.free_until.result c.free_until.ensures
