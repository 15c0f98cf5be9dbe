use Rattle.std.proofs.Common.{◌≡◌}
use Rattle.std.specs.Prelude.{flat_map}
use Rattle.airport_text.specs.Canonical.{times_on, numbers_below}
use Rattle.airport_text.specs.Written.{and_records}
use Rattle.airport_text.proofs.write.write_times.Given as goal

abbrev pub invariant-loop-number : goal.invariant-loop-number
invariant-loop-number l = l.records ≡ and_records l.initial.records (flat_map (times_on l.airport) (numbers_below l.number))
