use Rattle.std.proofs.Common.{sym}
use Rattle.airport_text.specs.Canonical.{clearance_record}
use Rattle.airport_text.proofs.RecordLaws.{and_records-none, number-more-if_any}
use Rattle.airport_text.proofs.write.write_clearances.Goals as goal

pub loop-number-init : goal.loop-number-init
loop-number-init c = sym (and_records-none _)

pub loop-number-preserved : goal.loop-number-preserved
loop-number-preserved c =
    number-more-if_any (λ class. clearance_record c.args.airport.now (record { 0 = class })) c.loop-number.number _ _ _ c.loop-number.invariant
    c.in_ok-write_clearance.ensures
