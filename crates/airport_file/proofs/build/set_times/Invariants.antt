use Rattle.std.proofs.Common.{◌≡◌, take, length, replicate}
use Rattle.airport_rules.specs.Plan.{table_of}
use Rattle.airport_file.proofs.build.set_times.Given as goal

abbrev pub invariant-loop-row : goal.invariant-loop-row
invariant-loop-row l = l.table ≡ record { segments = length l.plan.segments; table = table_of (length l.plan.classes) (length l.plan.segments) (take l.row-index l.plan.times); clearances = replicate (length l.plan.classes) 0 }
