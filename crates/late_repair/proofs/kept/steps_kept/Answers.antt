use Rattle.taxi_base.specs.State.{conditions_of}
use Rattle.late_repair.proofs.KeptLaws.{begun-in_time}
use Rattle.late_repair.proofs.kept.steps_kept.Goals as goal

pub leave_kept-requires : goal.leave_kept-requires
leave_kept-requires c =
    begun-in_time (conditions_of c.args.airport.now c.requires.0 c.args.flight.now) c.time.result c.args.flight.now.steps c.in-Some.begun.now c.requires.1 (rw c.as_slice.ensures at c.in-Some.ensures.0)
