use Rattle.taxi_base.proofs.AirportLaws.{arc_exists-segment}
use Rattle.due_refusals.proofs.taken.taken_cause.Goals as goal

pub taken_by-requires-clause-on : goal.taken_by-requires-clause-on
taken_by-requires-clause-on c = rw c.segment.ensures (arc_exists-segment c.args.airport.now c.args.step.arc c.requires.arc)
