use Rattle.std.proofs.Common.{sym}
use Rattle.airport_text.specs.Canonical.{times_on}
use Rattle.airport_text.proofs.RecordLaws.{and_records-none, number-more}
use Rattle.airport_text.proofs.write.write_times.Goals as goal

pub loop-number-init : goal.loop-number-init
loop-number-init c = sym (and_records-none _)

pub loop-number-preserved : goal.loop-number-preserved
loop-number-preserved c = number-more (times_on c.args.airport.now) c.loop-number.number _ _ _ c.loop-number.invariant c.in_ok-write_times_on.ensures
