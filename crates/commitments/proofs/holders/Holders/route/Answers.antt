use Rattle.std.proofs.Common.{◌<◌, length, arith}
use Rattle.commitments.specs.Holders.{state_of}
use Rattle.commitments.proofs.Routes.{party-at, flight-route}
use Rattle.commitments.proofs.StepsIn.{each-party, each-flight}
use Rattle.commitments.proofs.holders.Holders.route.Goals as goal

pub returns-then-number-parties-clause-steps : goal.returns-then-number-parties-clause-steps
returns-then-number-parties-clause-steps c =
    let parties = c.args.self.now.parties.parties in
    let low : c.args.number < length parties = omega (arith, c.if-number-parties.true, c.count-parties.ensures.count) in
    rw (c.of_party.ensures, c.steps.ensures c.at-party.result c.at-party.ensures) (each-party (state_of c.args.self.now) c.args.number c.at-party.result c.at-party.ensures low)

pub returns-then-number-parties-clause-route : goal.returns-then-number-parties-clause-route
returns-then-number-parties-clause-route c airport =
    rw (c.of_party.ensures, c.steps.ensures c.at-party.result c.at-party.ensures) (party-at airport (state_of c.args.self.now) c.args.number c.at-party.result c.at-party.ensures)

pub returns-else-number-parties-clause-steps : goal.returns-else-number-parties-clause-steps
returns-else-number-parties-clause-steps c =
    rw (c.as_slice.ensures, c.of_flight.ensures)
    (each-flight (state_of c.args.self.now) c.args.number c.at-flight.result.now (omega (arith, c.if-number-parties.false, c.count-parties.ensures.count)) (rw c.count-parties.ensures.count at c.at-flight.ensures))

pub returns-else-number-parties-clause-route : goal.returns-else-number-parties-clause-route
returns-else-number-parties-clause-route c airport =
    rw (c.as_slice.ensures, c.of_flight.ensures)
    (flight-route airport (state_of c.args.self.now) c.args.number (omega (arith, c.if-number-parties.false, c.count-parties.ensures.count)) c.at-flight.result.now (rw c.count-parties.ensures.count at c.at-flight.ensures))
