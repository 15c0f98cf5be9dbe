use Rattle.std.proofs.Common.{◌≡◌, take}
use Rattle.taxi_base.specs.Labels.{labels_after}
use Rattle.late_repair.proofs.seeking.none_after.Given as goal

abbrev pub invariant-loop-label : goal.invariant-loop-label
invariant-loop-label l = l.after ≡ labels_after l.bound (take l.label-index l.labels)
