use Rattle.std.proofs.Common.{◌≡◌, map, take}
use Rattle.airport_text.specs.Canonical.{conflict_record}
use Rattle.airport_text.specs.Written.{and_records}
use Rattle.airport_text.proofs.write.write_conflicts.Given as goal

abbrev pub invariant-loop-set : goal.invariant-loop-set
invariant-loop-set l = l.records ≡ and_records l.initial.records (map (conflict_record l.airport) (take l.set-index l.airport.conflicts))
