use Rattle.std.proofs.Common.{◌≡◌, true, take}
use Rattle.std.specs.List.{list_all}
use Rattle.taxi_base.specs.Airport.{conflict}
use Rattle.airport_lint.specs.Sets.{marked}
use Rattle.airport_lint.proofs.sets.conflicts_with_all.Given as goal

abbrev pub invariant-loop-other : goal.invariant-loop-other
invariant-loop-other l = list_all (conflict (marked l.sets l.marks) l.one) (take l.other-index l.others) ≡ true
