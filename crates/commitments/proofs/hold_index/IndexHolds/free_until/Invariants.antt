use Rattle.std.proofs.Common.{take}
use Rattle.std.specs.Prelude.{flat_map}
use Rattle.window_store.specs.Held.{IsFirstHeld}
use Rattle.commitments.specs.Held.{list_of, spans_by}
use Rattle.commitments.specs.Others.{steps_of_others}
use Rattle.commitments.proofs.hold_index.IndexHolds.free_until.Given as goal

abbrev pub invariant-loop-other : goal.invariant-loop-other
invariant-loop-other l =
    IsFirstHeld (flat_map (λ s. spans_by l.self.airport.now (steps_of_others l.name (list_of l.self.index.now s).steps)) (take l.other-index l.other-items)) l.from l.limit l.first
