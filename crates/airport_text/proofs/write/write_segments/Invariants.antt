use Rattle.std.proofs.Common.{◌≡◌, map, take}
use Rattle.airport_text.specs.Canonical.{segment_record}
use Rattle.airport_text.specs.Written.{and_records}
use Rattle.airport_text.proofs.write.write_segments.Given as goal

abbrev pub invariant-loop-number : goal.invariant-loop-number
invariant-loop-number l = l.records ≡ and_records l.initial.records (map (segment_record l.airport) (take l.number l.airport.segments))
