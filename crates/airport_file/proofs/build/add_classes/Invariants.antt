use Rattle.std.proofs.Common.{◌≡◌, replicate, None}
use Rattle.airport_file.proofs.build.add_classes.Given as goal

abbrev pub invariant-loop-at : goal.invariant-loop-at
invariant-loop-at l = l.table ≡ record { segments = l.initial.table.segments; table = replicate l.at (replicate l.initial.table.segments None); clearances = replicate l.at 0 }
