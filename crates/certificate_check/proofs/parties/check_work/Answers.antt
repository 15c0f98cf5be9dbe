use Rattle.replies.proofs.WindowsTold.{segment_named-exists}
use Rattle.certificate_check.proofs.parties.check_work.Goals as goal

pub hold_fault-requires-clause-on : goal.hold_fault-requires-clause-on
hold_fault-requires-clause-on c = segment_named-exists c.args.airport.now c.args.asked.now.segment c.in-Ok.segment c.in-Ok.ensures.named
