use Rattle.std.proofs.Common.{arith}
use Rattle.taxi_base.proofs.AirportLaws.{arc_exists-segment}
use Rattle.commitments.proofs.ledger.Ledger.taken_cause.Goals as goal

pub taken_by-requires-clause-segment : goal.taken_by-requires-clause-segment
taken_by-requires-clause-segment c = rw c.segment.ensures (arc_exists-segment c.args.airport.now c.args.step.now.arc c.requires.arc)

pub taken_by-requires-clause-some : goal.taken_by-requires-clause-some
taken_by-requires-clause-some c = rw (c.held-held.ensures, c.horizon.ensures.horizon) (omega (arith, c.requires.some, c.requires.in_time))

pub taken_by-requires-clause-in_time : goal.taken_by-requires-clause-in_time
taken_by-requires-clause-in_time c = rw (c.held-held.ensures, c.horizon.ensures.horizon) (omega arith)

pub returns : goal.returns
returns c = rw (c.held-held.ensures, c.segment.ensures, c.horizon.ensures.horizon, c.clearance.ensures.clearance) at c.taken_by.ensures
