use Rattle.std.proofs.Common.{◌≡◌, ap, sym}
use Rattle.std.proofs.lemmas.Option.{get_or_from_slice_get}
use Rattle.std.proofs.lemmas.List.Sorted.{IsPermutation-remove}
use Rattle.commitments.specs.Held.{StepList}
use Rattle.commitments.proofs.segment_holds.SegmentHolds.remove.Goals as goal

pub returns-else-is_empty-clause-steps : goal.returns-else-is_empty-clause-steps
returns-else-is_empty-clause-steps c =
    let steps = c.args.self.now.steps in
    let same : c.self.inside.steps.items ≡ steps = ap (λ (l : StepList). l.steps) c.self.view_is in
    rw (c.remove.ensures.items, same)
    (IsPermutation-remove steps c.place-place.result c.args.held c.place-place.ensures.here (sym (get_or_from_slice_get steps c.place-place.result c.args.held c.args.held c.place-place.ensures.is)))
