use Rattle.std.proofs.Common.{take}
use Rattle.std.specs.Prelude.{flat_map}
use Rattle.window_store.specs.Conflicting.{ReachesUpTo}
use Rattle.commitments.specs.Held.{list_of, spans_by}
use Rattle.commitments.proofs.hold_index.IndexHoldsOtherHolds.held_until.Given as goal

abbrev pub invariant-loop-other : goal.invariant-loop-other
invariant-loop-other l = ReachesUpTo (flat_map (λ s. spans_by l.self.airport.now (list_of l.self.index.now s).steps) (take l.other-index l.other-items)) l.from l.until
