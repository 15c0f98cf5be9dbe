use Rattle.std.proofs.Common.{◌≡◌, ◌++◌, length, map}
use Rattle.csv.specs.Records.{fields_of}
use Rattle.airport_file.specs.Rows.{IsReading, rows_left}
use Rattle.airport_file.proofs.records.records_left.Given as goal

abbrev pub invariant-rows : goal.invariant-rows
invariant-rows l = record {
  ready : IsReading l.reader;
  so_far : map fields_of l.rows.items ++ rows_left l.reader ≡ rows_left l.initial.reader;
}

abbrev pub decreases-rows : goal.decreases-rows
decreases-rows l = length (rows_left l.reader)
