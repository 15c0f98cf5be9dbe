-- What is answered so far, and the answers to the rest, are all.
use Rattle.std.proofs.Common.{◌≡◌, ◌+◌, ◌++◌, drop, map}
use Rattle.csv.specs.Records.{fields_of}
use Rattle.schedule_import.specs.Answers.{answers_from}
use Rattle.schedule_import.proofs.import.answers.Given as goal

abbrev pub invariant-loop-k : goal.invariant-loop-k
invariant-loop-k l = l.out.items ++ answers_from l.airport l.start (l.k + 3) (map fields_of (drop l.k l.rows)) ≡ answers_from l.airport l.start 3 (map fields_of l.rows)
