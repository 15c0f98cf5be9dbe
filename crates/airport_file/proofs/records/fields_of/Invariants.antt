use Rattle.std.proofs.Common.{◌≡◌, take}
use Rattle.csv.specs.Records.{fields_of}
use Rattle.airport_rules.specs.Judged.{texts_of}
use Rattle.airport_file.proofs.records.fields_of.Given as goal

abbrev pub invariant-loop-at : goal.invariant-loop-at
invariant-loop-at l = texts_of l.fields.items ≡ take l.at (fields_of l.row)
