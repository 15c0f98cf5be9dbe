use Rattle.std.proofs.Common.{◌≡◌}
use Rattle.std.specs.Prelude.{filter_map}
use Rattle.airport_text.specs.Canonical.{clearance_record, numbers_below}
use Rattle.airport_text.specs.Written.{and_records}
use Rattle.airport_text.proofs.write.write_clearances.Given as goal

abbrev pub invariant-loop-number : goal.invariant-loop-number
invariant-loop-number l =
    l.records ≡ and_records l.initial.records (filter_map (λ class. clearance_record l.airport (record { 0 = class })) (numbers_below l.number))
