use Rattle.std.proofs.Common.{◌≡◌, true, take}
use Rattle.std.specs.List.{list_all}
use Rattle.taxi_base.specs.Airport.{conflict}
use Rattle.airport_lint.specs.Sets.{marked}
use Rattle.airport_lint.proofs.sets.is_covered.Given as goal

abbrev pub invariant-loop-member : goal.invariant-loop-member
invariant-loop-member l = list_all (λ s. list_all (conflict (marked l.sets l.marks) s) l.set) (take l.member-index l.set) ≡ true
