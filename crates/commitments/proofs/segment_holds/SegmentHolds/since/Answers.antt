use Rattle.std.proofs.Common.{◌-◌, ◌+◌, ◌<◌, drop, subst}
use Rattle.std.specs.List.{AllWithin}
use Rattle.std.proofs.lemmas.List.{take_rest}
use Rattle.commitments.specs.Held.{AreSince, StepList}
use Rattle.commitments.proofs.OneSegment.{since-past}
use Rattle.commitments.proofs.segment_holds.SegmentHolds.since.Goals as goal

pub returns : goal.returns
returns c =
    let steps = c.self.inside.steps.items in
    let n = c.begun_before.result in
    let before : AllWithin (λ s. s.step.enter < (c.args.second + 1) - c.self.inside.longest) steps 0 n = rw (c.deref-2.ensures.value, c.saturating_sub-past.ensures, c.from.ensures) at c.begun_before.ensures.before in
    rw (c.deref.ensures.value, take_rest steps n)
    (subst (λ (l : StepList). AreSince l.steps c.args.second (drop n steps)) c.self.view_is
    (since-past steps c.self.inside.longest c.args.second n c.self.invariant.0 c.self.invariant.1 (rw c.deref-2.ensures.value at c.begun_before.ensures.few) before))
