use Rattle.std.proofs.Common.{◌≡◌, length, take}
use Rattle.csv.specs.Records.{fields_of}
use Rattle.airport_rules.specs.Judged.{texts_of}
use Rattle.airport_file.proofs.records.short_fields.Given as goal

abbrev pub invariant-loop-at : goal.invariant-loop-at
invariant-loop-at l = record {
  room : length l.fields ≡ 17;
  so_far : texts_of (take l.at l.fields) ≡ take l.at (fields_of l.row);
}
