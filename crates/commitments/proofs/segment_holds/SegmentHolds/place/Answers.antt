use Rattle.std.proofs.Common.{◌≡◌, ◌≢◌, ◌<◌, ap, Some, drop}
use Rattle.std.proofs.lemmas.List.{take_rest}
use Rattle.std.specs.Prelude.{All, IfNone, slice_get}
use Rattle.std.specs.List.{AllWithin}
use Rattle.commitments.specs.Held.{StepList}
use Rattle.commitments.proofs.OneSegment.{place-is, found-some}
use Rattle.commitments.proofs.segment_holds.SegmentHolds.place.Goals as goal

pub unwrap-requires : goal.unwrap-requires
unwrap-requires c =
    let steps = c.args.self.now.steps in
    let same : c.self.inside.steps.items ≡ steps = ap (λ (l : StepList). l.steps) c.self.view_is in
    let n = c.begun_before-start.result in
    let none : IfNone c.place_among.result (All (λ other. other ≢ c.args.held.now) (drop n steps)) = rw (c.deref-2.ensures.value, same, take_rest steps n) at c.place_among.ensures.none in
    let before : AllWithin (λ s. s.step.enter < c.args.held.now.step.enter) steps 0 n = rw (c.deref.ensures.value, same, c.from.ensures) at c.begun_before-start.ensures.before in
    found-some steps c.args.held.now n c.requires before c.place_among.result none

pub returns-clause-is : goal.returns-clause-is
returns-clause-is c =
    let steps = c.args.self.now.steps in
    let same : c.self.inside.steps.items ≡ steps = ap (λ (l : StepList). l.steps) c.self.view_is in
    let n = c.begun_before-start.result in
    let is : slice_get (drop n steps) c.unwrap.result ≡ Some c.args.held.now = rw (c.deref-2.ensures.value, same, take_rest steps n, c.unwrap.ensures) at c.place_among.ensures.some in
    place-is steps n c.unwrap.result c.args.held.now is
