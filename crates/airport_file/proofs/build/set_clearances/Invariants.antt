use Rattle.std.proofs.Common.{◌≡◌, take, length}
use Rattle.airport_rules.specs.Plan.{table_of, clearances_of}
use Rattle.airport_file.proofs.build.set_clearances.Given as goal

abbrev pub invariant-loop-row : goal.invariant-loop-row
invariant-loop-row l =
    l.table ≡ record {
      segments = length l.plan.segments;
      table = table_of (length l.plan.classes) (length l.plan.segments) l.plan.times;
      clearances = clearances_of (length l.plan.classes) (take l.row-index l.plan.clearances);
    }
