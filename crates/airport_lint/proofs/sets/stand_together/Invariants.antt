use Rattle.std.proofs.Common.{◌≡◌, ◌&&◌, false, take}
use Rattle.std.specs.List.{list_any}
use Rattle.taxi_base.specs.Airport.{has_member}
use Rattle.airport_lint.specs.Sets.{marked}
use Rattle.airport_lint.proofs.sets.stand_together.Given as goal

abbrev pub invariant-loop-at : goal.invariant-loop-at
invariant-loop-at l = list_any (λ set. has_member set l.one && has_member set l.other) (marked (take l.at l.sets) (take l.at l.marks)) ≡ false
