use Rattle.std.proofs.Common.{take}
use Rattle.std.specs.Prelude.{flat_map}
use Rattle.commitments.specs.Held.{list_of}
use Rattle.commitments.specs.Taken.{has_second, IsFirstNamed}
use Rattle.commitments.proofs.hold_index.IndexHolds.first_holder.Given as goal

abbrev pub invariant-loop-other : goal.invariant-loop-other
invariant-loop-other l = IsFirstNamed (has_second l.self.airport.now l.second) (flat_map (λ s. (list_of l.self.index.now s).steps) (take l.other-index l.other-items)) l.first
