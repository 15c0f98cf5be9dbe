use Rattle.std.proofs.Common.{◌≡◌, map, take}
use Rattle.airport_text.specs.Canonical.{forbid_record}
use Rattle.airport_text.specs.Written.{and_records}
use Rattle.airport_text.proofs.write.write_turns.Given as goal

abbrev pub invariant-loop-turn : goal.invariant-loop-turn
invariant-loop-turn l = l.records ≡ and_records l.initial.records (map (forbid_record l.airport) (take l.turn-index l.airport.forbidden))
